-- What is kept as forced is forced: by the entry itself, and by the parts that it asks for.
use Rattle.std.proofs.Common.{◌≡◌, ℕ, suc, ◌<◌, ◌≤◌, Bool, true, false, not, List, get_or, set, take, replicate, length, length-take, sym, ◌∙◌, subst, ⊎_elim, ◌⊎◌, arith}
use Rattle.std.proofs.lemmas.Bool.{or_cases, cases_eq, cases_lt}
use Rattle.std.proofs.lemmas.List.{get_or-set_same, get_or-set_other, length-set, length-replicate, get_or-replicate, get_or_past, get_or-take}
use Rattle.words.specs.Sets.{has}
use Rattle.words.proofs.Words.{has_or}
use Rattle.meaning.specs.declared.Concept.TheVariants.{Nothing, Everything, Name, Not, And, Or, Restriction}
use Rattle.tableau.specs.declared.Label.{Label}
use Rattle.tableau.specs.declared.Entry.{Entry}
use Rattle.tableau.specs.declared.Entry.TheVariants.{Plain, Inclusion, Inclusions}
use Rattle.tableau.specs.Labels.{empty, in_label, put, joined}
use Rattle.tableau.specs.Entries.{LowerEntry}
use Rattle.tableau.specs.Saturation.{Holds, Saturates}
use Rattle.tableau.proofs.Labelling.{in_empty, put_cases}
use Rattle.plan.specs.declared.forced.Forced.{Forced}
use Rattle.plan.specs.Plans.{listed_entry, is_lower}
use Rattle.plan.proofs.Lowered.{lower_from}
use Rattle.plan.specs.Forcing.{GrownBelow, Forces, forced_by, brought}

pub holds_empty : (l : Label) → Holds l empty
holds_empty l s i h = in_empty s i h

pub joined_cases : (l m : Label) (s : Bool) (i : ℕ) → in_label (joined l m) s i ≡ true → (in_label l s i ≡ true) ⊎ (in_label m s i ≡ true)
unfolding in_label
joined_cases l m true i h = or_cases (has l.plus i) (has m.plus i) (sym (has_or l.plus m.plus i) ∙ h)
joined_cases l m false i h = or_cases (has l.minus i) (has m.minus i) (sym (has_or l.minus m.minus i) ∙ h)

pub holds_joined : (l a b : Label) → Holds l a → Holds l b → Holds l (joined a b)
holds_joined l a b p q s i h = ⊎_elim (p s i) (q s i) (joined_cases a b s i h)

pub holds_put : (l m : Label) (s : Bool) (i : ℕ) → in_label l s i ≡ true → Holds l m → Holds l (put s i m)
holds_put l m s i here p t j h =
    ⊎_elim (λ same. rw (same.0, same.1) here) (p t j) (put_cases s i m t j h)

-- a label that has grown by more entries has grown by fewer
pub grown_less : (n : ℕ) (es : List Entry) (j k : ℕ) (l : Label) → j ≤ k → GrownBelow n es k l → GrownBelow n es j l
grown_less n es j k l h g i s low = g i s (omega arith)

-- nothing is forced by any entry
pub forces_empty : (n : ℕ) (es : List Entry) (s : Bool) (i : ℕ) → Forces n es s i empty
forces_empty n es s i l g h = holds_empty l

module _ (n : ℕ) (es : List Entry) (f : Forced) (so : (s : Bool) (i : ℕ) → Forces n es s i (forced_by f s i)) where
  -- what the parts of an entry force that the label has what it asks for
  parts : (i : ℕ) (e : Entry) (s : Bool) (l : Label) → LowerEntry i e → GrownBelow n es (suc i) l → Saturates e s l → Holds l (brought f e s)
  parts i (Plain Nothing) s l low g u = holds_empty l
  parts i (Plain Everything) s l low g u = holds_empty l
  parts i (Plain (Name k)) s l low g u = holds_empty l
  parts i (Plain (Not a)) s l low g u = so (not s) a l (grown_less n es (suc a) (suc i) l (omega (arith, low)) g) u
  parts i (Plain (And a b)) true l low g u = holds_joined l (forced_by f true a) (forced_by f true b)
      (so true a l (grown_less n es (suc a) (suc i) l (omega (arith, low.0)) g) u.0)
      (so true b l (grown_less n es (suc b) (suc i) l (omega (arith, low.1)) g) u.1)
  parts i (Plain (And a b)) false l low g u = holds_empty l
  parts i (Plain (Or a b)) true l low g u = holds_empty l
  parts i (Plain (Or a b)) false l low g u = holds_joined l (forced_by f false a) (forced_by f false b)
      (so false a l (grown_less n es (suc a) (suc i) l (omega (arith, low.0)) g) u.0)
      (so false b l (grown_less n es (suc b) (suc i) l (omega (arith, low.1)) g) u.1)
  parts i (Plain (Restriction q r a)) s l low g u = holds_empty l
  parts i (Inclusion c d) s l low g u = holds_empty l
  parts i (Inclusions lo m) s l low g u = holds_empty l

  -- so the entry forces that, and itself
  pub forces_step : (i : ℕ) (s : Bool) → i < n → LowerEntry i (listed_entry es i) → Forces n es s i (put s i (brought f (listed_entry es i) s))
  forces_step i s few low l g h =
      holds_put l (brought f (listed_entry es i) s) s i h (parts i (listed_entry es i) s l low g (g i s (omega arith) few h))

-- a table in which a label that is forced is put
pub forced_set : (n : ℕ) (es : List Entry) (ls : List Label) (s : Bool) (i : ℕ) (m : Label) → i < length ls → Forces n es s i m
    → ((j : ℕ) → Forces n es s j (get_or ls j empty)) → (j : ℕ) → Forces n es s j (get_or (set ls i m) j empty)
forced_set n es ls s i m few here others j = ⊎_elim
    (λ (same : j ≡ i). rw same (subst (Forces n es s i) (sym (get_or-set_same ls i m empty few)) here))
    (λ other. subst (Forces n es s j) (sym (get_or-set_other ls i j m empty other)) (others j))
    (cases_eq j i)

-- a table of labels that are forced
pub record Kept (n : ℕ) (es : List Entry) (f : Forced) : Type 0 where
  pub plus_long : length f.plus ≡ 64
  pub minus_long : length f.minus ≡ 64
  pub so : (s : Bool) (i : ℕ) → Forces n es s i (forced_by f s i)

none_at : (n i : ℕ) → get_or (replicate n empty) i empty ≡ empty
none_at n i = ⊎_elim
    (λ l. get_or-replicate n i empty empty l)
    (λ g. get_or_past (replicate n empty) i empty (omega (arith, length-replicate n empty)))
    (cases_lt i n)

-- at the start nothing is kept
pub kept_none : (n : ℕ) (es : List Entry) → Kept n es (record { plus = replicate 64 empty; minus = replicate 64 empty })
kept_none n es = record { plus_long = length-replicate 64 empty; minus_long = length-replicate 64 empty; so = so }
  where
    so : (s : Bool) (i : ℕ) → Forces n es s i (forced_by (record { plus = replicate 64 empty; minus = replicate 64 empty }) s i)
    so true i = subst (Forces n es true i) (sym (none_at 64 i)) (forces_empty n es true i)
    so false i = subst (Forces n es false i) (sym (none_at 64 i)) (forces_empty n es false i)

pub kept_next : (n : ℕ) (es : List Entry) (f : Forced) (i : ℕ) (x y : Label) → Kept n es f → i < n → n ≤ 64 → is_lower i (listed_entry es i) ≡ true
    → x ≡ put true i (brought f (listed_entry es i) true) → y ≡ put false i (brought f (listed_entry es i) false)
    → Kept n es (record { plus = set f.plus i x; minus = set f.minus i y })
kept_next n es f i x y k few fits low xs ys = record {
  plus_long = length-set f.plus i x ∙ k.plus_long;
  minus_long = length-set f.minus i y ∙ k.minus_long;
  so = so;
}
  where
    step : (s : Bool) → Forces n es s i (put s i (brought f (listed_entry es i) s))
    step s = forces_step n es f k.so i s few (lower_from i (listed_entry es i) low)

    so : (s : Bool) (j : ℕ) → Forces n es s j (forced_by (record { plus = set f.plus i x; minus = set f.minus i y }) s j)
    so true j = forced_set n es f.plus true i x (omega (arith, k.plus_long)) (subst (Forces n es true i) (sym xs) (step true)) (λ j. k.so true j) j
    so false j = forced_set n es f.minus false i y (omega (arith, k.minus_long)) (subst (Forces n es false i) (sym ys) (step false)) (λ j. k.so false j) j

-- what the first n entries force is forced where they stand among others
pub forces_first : (n : ℕ) (es : List Entry) (s : Bool) (i : ℕ) (m : Label) → n ≤ length es → Forces (length (take n es)) (take n es) s i m → Forces n es s i m
forces_first n es s i m fits so l g h =
    so l (λ j t low first e. let far : j < n = omega (arith, length-take n es) in
    subst (λ e. Saturates e t l) (sym (get_or-take n es j (Plain Nothing) far)) (g j t low far e)) h
