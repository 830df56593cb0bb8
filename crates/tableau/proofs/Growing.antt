-- Expansions are saturated: entries are taken from the highest down, each adds only lower ones, and so nothing that was
-- taken is disturbed.
use Rattle.std.proofs.Common.{◌≡◌, ℕ, zero, suc, ◌+◌, ◌<◌, ◌≤◌, Bool, true, false, cond, not, ◌||◌, ◌⊎◌, List, [], ◌∷◌, refl, subst, inl, inr, ⊎_elim, arith}
use Rattle.std.proofs.lemmas.Bool.{cases_Bool, cases_eq, or_cases, both_ways}
use Rattle.meaning.specs.declared.Concept.TheVariants.{Nothing, Everything, Name, Not, And, Or, Restriction}
use Rattle.tableau.specs.declared.Label.{Label}
use Rattle.tableau.specs.declared.Entry.{Entry}
use Rattle.tableau.specs.declared.Entry.TheVariants.{Plain, Inclusion, Inclusions}
use Rattle.tableau.specs.Labels.{in_label, put}
use Rattle.tableau.specs.Entries.{Table, LowerEntry}
use Rattle.tableau.specs.Expansions.{Ways, One, Two, clash, one_of, grown, taken, branch, expand, expansions}
use Rattle.tableau.specs.Saturation.{Holds, Saturates, In}
use Rattle.tableau.proofs.Folding.{fold_keeps, fold_gives}
use Rattle.tableau.proofs.Labelling.{put_in, put_keeps, put_cases}
use Rattle.tableau.proofs.Clashing.{one_sign}
use Rattle.tableau.proofs.Standing.{Saturated, in_append}

-- a label that holds more is saturated for what it was saturated for
saturates_more : (e : Entry) (s : Bool) (l m : Label) → Holds m l → Saturates e s l → Saturates e s m
saturates_more (Plain Nothing) s l m h u = tt
saturates_more (Plain Everything) s l m h u = tt
saturates_more (Plain (Name n)) s l m h u = tt
saturates_more (Plain (Not a)) s l m h u = h (not s) a u
saturates_more (Plain (And a b)) true l m h u = (h true a u.0, h true b u.1)
saturates_more (Plain (And a b)) false l m h u = ⊎_elim (λ p. inl (h false a p)) (λ p. inr (h false b p)) u
saturates_more (Plain (Or a b)) true l m h u = ⊎_elim (λ p. inl (h true a p)) (λ p. inr (h true b p)) u
saturates_more (Plain (Or a b)) false l m h u = (h false a u.0, h false b u.1)
saturates_more (Plain (Restriction q r a)) s l m h u = tt
saturates_more (Inclusion c d) true l m h u = ⊎_elim (λ p. inl (h false c p)) (λ p. inr (h true d p)) u
saturates_more (Inclusion c d) false l m h u = tt
saturates_more (Inclusions lo n) true l m h u = λ k p. h true (lo + k) (u k p)
saturates_more (Inclusions lo n) false l m h u = tt

-- m is l with entries below k besides
pub record Grew (k : ℕ) (l m : Label) : Type 0 where
  pub holds : Holds m l
  pub old : (s : Bool) (i : ℕ) → k ≤ i → in_label m s i ≡ true → in_label l s i ≡ true

-- nothing, one more, and some after others
grew_none : (k : ℕ) (l : Label) → Grew k l l
grew_none k l = record { holds = λ s i h. h; old = λ s i p h. h }

grew_put : (k : ℕ) (l m : Label) (s : Bool) (a : ℕ) → a < k → Grew k l m → Grew k l (put s a m)
grew_put k l m s a low g = record {
  holds = λ t i h. put_keeps s a m t i (g.holds t i h);
  old = λ t i p h. ⊎_elim (λ same. absurd (omega (arith, same.1))) (λ was. g.old t i p was) (put_cases s a m t i h);
}

grew_on : (j k : ℕ) (l m n : Label) → j ≤ k → Grew k l m → Grew j m n → Grew k l n
grew_on j k l m n low g h = record {
  holds = λ s i p. h.holds s i (g.holds s i p);
  old = λ s i p q. g.old s i p (h.old s i (omega arith) q);
}

-- a fact of each way
abbrev pub EachWay : (Label → Type 0) → Ways → Type 0
EachWay P (One l) = P l
EachWay P (Two l m) = P l × P m

-- a way of l that takes the signed entry, whose parts are below k
abbrev Takes : ℕ → Entry → Bool → Label → Label → Type 0
Takes k e s l m = Grew k l m × Saturates e s m

-- an entry that asks for two
both : (k : ℕ) (e : Entry) (s t : Bool) (a b : ℕ) (l : Label) → (a < k) × (b < k)
    → ((m : Label) → (in_label m t a ≡ true) × (in_label m t b ≡ true) → Saturates e s m) → Takes k e s l (put t a (put t b l))
both k e s t a b l low f =
    let m = put t b l in
    (grew_put k l m t a low.0 (grew_put k l l t b low.1 (grew_none k l)), f (put t a m) (put_in t a m, put_keeps t a m t b (put_in t b l)))

-- and one that asks for one of two
either : (k : ℕ) (e : Entry) (s t u : Bool) (a b : ℕ) (l : Label) → (a < k) × (b < k)
    → ((m : Label) → (in_label m t a ≡ true) ⊎ (in_label m u b ≡ true) → Saturates e s m)
    → EachWay (Takes k e s l) (one_of (in_label l t a || in_label l u b) (put t a l) (put u b l) l)
either k e s t u a b l low f = go (in_label l t a || in_label l u b) refl
  where
    go : (h : Bool) → (in_label l t a || in_label l u b) ≡ h → EachWay (Takes k e s l) (one_of h (put t a l) (put u b l) l)
    go true h = (grew_none k l, f l (or_cases (in_label l t a) (in_label l u b) h))
    go false h = (
      (grew_put k l l t a low.0 (grew_none k l), f (put t a l) (inl (put_in t a l))),
      (grew_put k l l u b low.1 (grew_none k l), f (put u b l) (inr (put_in u b l))),
    )

-- every way of an entry takes it
grown_takes : (k : ℕ) (e : Entry) (s : Bool) (l : Label) → LowerEntry k e → EachWay (Takes k e s l) (grown e s l)
grown_takes k (Plain Nothing) s l low = (grew_none k l, tt)
grown_takes k (Plain Everything) s l low = (grew_none k l, tt)
grown_takes k (Plain (Name n)) s l low = (grew_none k l, tt)
grown_takes k (Plain (Not a)) s l low = (grew_put k l l (not s) a low (grew_none k l), put_in (not s) a l)
grown_takes k (Plain (And a b)) true l low = both k (Plain (And a b)) true true a b l low (λ m h. h)
grown_takes k (Plain (And a b)) false l low = either k (Plain (And a b)) false false false a b l low (λ m h. h)
grown_takes k (Plain (Or a b)) true l low = either k (Plain (Or a b)) true true true a b l low (λ m h. h)
grown_takes k (Plain (Or a b)) false l low = both k (Plain (Or a b)) false false a b l low (λ m h. h)
grown_takes k (Plain (Restriction q r a)) s l low = (grew_none k l, tt)
grown_takes k (Inclusion c d) true l low = either k (Inclusion c d) true false true c d l low (λ m h. h)
grown_takes k (Inclusion c d) false l low = (grew_none k l, tt)
grown_takes k (Inclusions lo n) true l low = (
  fold_keeps (Grew k l) n (λ j. put true (lo + j)) (λ j m p g. grew_put k l m true (lo + j) (omega arith) g) l (grew_none k l),
  (λ j p. fold_gives (λ m. in_label m true (lo + j) ≡ true) n j (λ j. put true (lo + j)) p (λ m. put_in true (lo + j) m)
      (λ i m b h. put_keeps true (lo + i) m true (lo + j) h) l),
)
grown_takes k (Inclusions lo n) false l low = (grew_none k l, tt)

-- a way of l that takes entry k with the sign it has, + before -
pub record Took (k : ℕ) (e : Entry) (l m : Label) : Type 0 where
  pub grew : Grew k l m
  with_plus : in_label l true k ≡ true → Saturates e true m
  with_minus : in_label l true k ≡ false → in_label l false k ≡ true → Saturates e false m

-- what follows from a fact of each way
pub each_weaker : (P Q : Label → Type 0) → ((m : Label) → P m → Q m) → (w : Ways) → EachWay P w → EachWay Q w
each_weaker P Q f (One l) p = f l p
each_weaker P Q f (Two l m) p = (f l p.0, f m p.1)

-- every way of the entry that is taken
pub taken_took : (k : ℕ) (e : Entry) (l : Label) → LowerEntry k e → EachWay (Took k e l) (taken e k l)
unfolding taken
taken_took k e l low = go (in_label l true k) refl (in_label l false k) refl
  where
    go : (p : Bool) → in_label l true k ≡ p → (q : Bool) → in_label l false k ≡ q → EachWay (Took k e l) (cond p (grown e true l) (cond q (grown e false l) (One l)))
    go true hp q hq = each_weaker (Takes k e true l) (Took k e l)
        (λ m t. record { grew = t.0; with_plus = λ z. t.1; with_minus = λ z. absurd (both_ways (in_label l true k) z hp) })
        (grown e true l) (grown_takes k e true l low)
    go false hp true hq = each_weaker (Takes k e false l) (Took k e l)
        (λ m t. record { grew = t.0; with_plus = λ z. absurd (both_ways (in_label l true k) hp z); with_minus = λ z y. t.1 })
        (grown e false l) (grown_takes k e false l low)
    go false hp false hq = record {
      grew = grew_none k l;
      with_plus = λ z. absurd (both_ways (in_label l true k) hp z);
      with_minus = λ z y. absurd (both_ways (in_label l false k) hq y);
    }

-- what is in a branch comes by one of the ways
in_branch : (P : Label → Type 0) (e : Label) (f : Label → List Label) (w : Ways) → EachWay P w → In e (branch f w) → (m : Label) × P m × In e (f m)
unfolding branch
in_branch P e f (One l) p h = (l, p, h)
in_branch P e f (Two l m) p h = ⊎_elim (λ q. (l, p.0, q)) (λ q. (m, p.1, q)) (in_append e (f l) (f m) h)

-- e is an expansion of l by the entries below k
pub record Expanded (B : Table) (k : ℕ) (l e : Label) : Type 0 where
  pub grew : Grew k l e
  pub calm : clash B e ≡ false
  pub done : (i : ℕ) (s : Bool) → i < k → i < B.width → in_label e s i ≡ true → Saturates (B.entry i) s e

-- with no entry left, it is the label itself, if it has no clash
in_calm : (B : Table) (l e : Label) → In e (cond (clash B l) [] (l ∷ [])) → Expanded B 0 l e
in_calm B l e h = go (clash B l) refl h
  where
    go : (b : Bool) → clash B l ≡ b → In e (cond b [] (l ∷ [])) → Expanded B 0 l e
    go true c h = absurd h
    go false c h = ⊎_elim
        (λ (same : l ≡ e). subst (Expanded B 0 l) same (record { grew = grew_none 0 l; calm = c; done = λ i s p. absurd (omega arith) }))
        (λ none. absurd none) h

-- one entry more
expanded_step : (B : Table) (k : ℕ) (l m e : Label) → Took k (B.entry k) l m → Expanded B k m e → Expanded B (suc k) l e
expanded_step B k l m e t x = record { grew = grew_on k (suc k) l m e (omega arith) (grew_up t.grew) x.grew; calm = x.calm; done = done }
  where
    grew_up : Grew k l m → Grew (suc k) l m
    grew_up g = record { holds = g.holds; old = λ s i p h. g.old s i (omega arith) h }

    was : (s : Bool) → in_label e s k ≡ true → in_label l s k ≡ true
    was s h = t.grew.old s k (omega arith) (x.grew.old s k (omega arith) h)

    now_too : (s : Bool) → in_label l s k ≡ true → in_label e s k ≡ true
    now_too s h = x.grew.holds s k (t.grew.holds s k h)

    here : (s : Bool) → k < B.width → in_label e s k ≡ true → Saturates (B.entry k) s e
    here true low h = saturates_more (B.entry k) true m e x.grew.holds (t.with_plus (was true h))
    here false low h = ⊎_elim
        (λ p. absurd (one_sign B e x.calm k low (now_too true p) h))
        (λ p. saturates_more (B.entry k) false m e x.grew.holds (t.with_minus p (was false h)))
        (cases_Bool (in_label l true k))

    done : (i : ℕ) (s : Bool) → i < suc k → i < B.width → in_label e s i ≡ true → Saturates (B.entry i) s e
    done i s p low h = ⊎_elim
        (λ (same : k ≡ i). subst (λ j. (s : Bool) → j < B.width → in_label e s j ≡ true → Saturates (B.entry j) s e) same here s low h)
        (λ other. x.done i s (omega arith) low h)
        (cases_eq k i)

-- each label that is made is such an expansion
pub expand_right : (B : Table) → ((i : ℕ) → LowerEntry i (B.entry i)) → (k : ℕ) (l e : Label) → In e (expand B k l) → Expanded B k l e
unfolding expand
expand_right B low zero l e h = in_calm B l e h
expand_right B low (suc k) l e h =
    let w = in_branch (Took k (B.entry k) l) e (expand B k) (taken (B.entry k) k l) (taken_took k (B.entry k) l (low k)) h in
    expanded_step B k l w.0 e w.1 (expand_right B low k w.0 e w.2)

-- an expansion of a seed is saturated, and is the seed with working entries besides
pub record Expansion (B : Table) (seed e : Label) : Type 0 where
  pub full : Saturated B e
  pub grew : Grew B.width seed e

-- and such are all that the search tries
pub expansions_right : (B : Table) → ((i : ℕ) → LowerEntry i (B.entry i)) → (seed e : Label) → In e (expansions B seed) → Expansion B seed e
unfolding expansions
expansions_right B low seed e h =
    let x = expand_right B low B.width seed e h in
    record { full = record { calm = x.calm; saturated = λ i s l p. x.done i s l l p }; grew = x.grew }
