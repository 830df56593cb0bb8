-- The seeds of a label's obligations, from one entry to the next.
use Rattle.std.proofs.Common.{◌≡◌, ℕ, zero, suc, ◌+◌, ◌-◌, ◌<◌, ◌≤◌, Bool, true, false, cond, ◌&&◌, ◌||◌, ltb, [], ◌∷◌, length, sym, refl, ap, ◌∙◌, ⊎_elim, add-zero, add-one, arith, Option, None, Some, IfSome, MatchOption, option_map}
use Rattle.std.proofs.lemmas.Bool.{and_parts, or_parts, or_cases, lt-ltb, ltb-true, cond-false, cond_both}
use Rattle.words.specs.Sets.{has}
use Rattle.words.proofs.Words.{has_and}
use Rattle.meaning.specs.Orders.{RoleBox}
use Rattle.meaning.specs.declared.Concept.TheVariants.{Nothing, Everything, Name, Not, And, Or, Restriction}
use Rattle.tableau.specs.declared.Label.{Label}
use Rattle.tableau.specs.declared.Entry.{Entry}
use Rattle.tableau.specs.declared.Entry.TheVariants.{Plain, Inclusion, Inclusions}
use Rattle.tableau.specs.declared.Demand.{Demand}
use Rattle.tableau.specs.Entries.{Table, LowerEntry}
use Rattle.tableau.specs.Labels.{in_label, common}
use Rattle.tableau.specs.Seeds.{obliges, sign_of, obligation, obliged_at, role_of, seed_of, wants}
use Rattle.plan.specs.declared.Plan.{Plan}
use Rattle.plan.specs.Meanings.{table_in, box_in}
use Rattle.plan.specs.Plans.{listed_entry}
use Rattle.plan.specs.Signs.{obliging_entry}
use Rattle.plan.proofs.Lowered.{plan_lower}
use Rattle.successor.proofs.Emptying.{NoneFrom, NextFrom}
use Rattle.successor.specs.Obligations.{seed_before, seeds_up, seeds_from}
use Rattle.successor.proofs.Labels.{in_plus, in_minus}

-- the role and the part of what an entry obliges to are members of words
abbrev pub Inside : Demand → Type 0
Inside d = (d.role < 64) × (d.part < 64)

inside : (i : ℕ) (e : Entry) (u : Bool) → i < 64 → role_of e < 64 → LowerEntry i e → IfSome (obligation e u) Inside
inside i (Plain Nothing) u l few low = tt
inside i (Plain Everything) u l few low = tt
inside i (Plain (Name n)) u l few low = tt
inside i (Plain (Not b)) u l few low = tt
inside i (Plain (And b d)) u l few low = tt
inside i (Plain (Or b d)) u l few low = tt
inside i (Plain (Restriction q t b)) u l few low =
    cond_both (obliges q u) (wants t (sign_of q u) b) None (λ o. IfSome o Inside) (λ h. (few, omega arith)) (λ h. tt)
inside i (Inclusion b d) u l few low = tt
inside i (Inclusions b d) u l few low = tt

pub obligation_inside : (p : Plan) (i : ℕ) (u : Bool) (o : Option Demand) → i < 64 → o ≡ obligation (listed_entry p.entries i) u → IfSome o Inside
obligation_inside p i u o l e = rw e (inside i (listed_entry p.entries i) u l (p.roles_in i) (plan_lower p i))

-- an entry that obliges to nothing with the sign
obligation_none : (e : Entry) (u : Bool) → obliging_entry e u ≡ false → obligation e u ≡ None
obligation_none (Plain Nothing) u h = refl
obligation_none (Plain Everything) u h = refl
obligation_none (Plain (Name n)) u h = refl
obligation_none (Plain (Not b)) u h = refl
obligation_none (Plain (And b d)) u h = refl
obligation_none (Plain (Or b d)) u h = refl
obligation_none (Plain (Restriction q t b)) u h = cond-false (obliges q u) (wants t (sign_of q u) b) None h
obligation_none (Inclusion b d) u h = refl
obligation_none (Inclusions b d) u h = refl

-- a label that holds the entry with no sign by which it obliges has no obligation by it
idle_at : (B : Table) (l : Label) (i : ℕ) → ((u : Bool) → (in_label l u i && obliging_entry (B.entry i) u) ≡ false) → obliged_at B l i ≡ None
idle_at B l i idle =
    cond_both (in_label l true i) (obligation (B.entry i) true) (cond (in_label l false i) (obligation (B.entry i) false) None) (λ o. o ≡ None)
    (λ h. obligation_none (B.entry i) true (at true h))
    (λ g. cond_both (in_label l false i) (obligation (B.entry i) false) None (λ o. o ≡ None) (λ h. obligation_none (B.entry i) false (at false h)) (λ h. refl))
  where
    at : (u : Bool) → in_label l u i ≡ true → obliging_entry (B.entry i) u ≡ false
    at u h = ap (λ b. b && obliging_entry (B.entry i) u) (sym h) ∙ idle u

module _ (H : RoleBox) (B : Table) (l : Label) where
  -- the seeds from an entry on are that of the entry and those from the next on
  pub seeds_at : (i : ℕ) → i < B.width → seeds_from H B l i ≡ seed_before H B l (obliged_at B l i) (seeds_from H B l (i + 1))
  unfolding seeds_from seeds_up
  seeds_at i h =
      let e : B.width - i ≡ suc (B.width - suc i) = omega arith in
      ap (λ d. seeds_up H B l d i) e ∙ ap (λ k. seed_before H B l (obliged_at B l i) (seeds_up H B l (B.width - k) k)) (sym (add-one i))

  -- there are none past the last entry
  pub seeds_past : (i : ℕ) → B.width ≤ i → seeds_from H B l i ≡ []
  unfolding seeds_from seeds_up
  seeds_past i h =
      let e : B.width - i ≡ 0 = omega arith in
      ap (λ d. seeds_up H B l d i) e

  up_few : (d i : ℕ) → length (seeds_up H B l d i) ≤ d
  unfolding seeds_up
  up_few zero i = omega arith
  up_few (suc d) i = one (obliged_at B l i) (up_few d (suc i))
    where
      one : (o : Option Demand) → length (seeds_up H B l d (suc i)) ≤ d → length (seed_before H B l o (seeds_up H B l d (suc i))) ≤ suc d
      one None h = omega arith
      one (Some d) h = omega arith

  -- there are no more of them than entries
  pub seeds_few : (k : ℕ) → length (seeds_from H B l k) ≤ B.width
  unfolding seeds_from
  seeds_few k = omega (arith, up_few (B.width - k) k)

  pub seeds_idle : (i : ℕ) → i < B.width → obliged_at B l i ≡ None → seeds_from H B l i ≡ seeds_from H B l (i + 1)
  seeds_idle i h e = seeds_at i h ∙ ap (λ o. seed_before H B l o (seeds_from H B l (i + 1))) e

  -- the seeds from an entry on, by the seed of the entry, if there is one
  pub seeds_by : (i : ℕ) (r : Option Label) → i < B.width → r ≡ option_map (λ (d : Demand). seed_of H B l d.role d.sign d.part) (obliged_at B l i)
      → MatchOption r (seeds_from H B l i ≡ seeds_from H B l (i + 1)) (λ m. seeds_from H B l i ≡ m ∷ seeds_from H B l (i + 1))
  seeds_by i r h e = rw e (go (obliged_at B l i) (seeds_at i h))
    where
      go : (o : Option Demand) → seeds_from H B l i ≡ seed_before H B l o (seeds_from H B l (i + 1))
          → MatchOption (option_map (λ (d : Demand). seed_of H B l d.role d.sign d.part) o) (seeds_from H B l i ≡ seeds_from H B l (i + 1)) (λ m. seeds_from H B l i ≡ m ∷ seeds_from H B l (i + 1))
      go None f = f
      go (Some d) f = f

  skip_by : (i d : ℕ) → i + d ≤ B.width → ((j : ℕ) → i ≤ j → j < i + d → obliged_at B l j ≡ None) → seeds_from H B l i ≡ seeds_from H B l (i + d)
  skip_by i zero h none = ap (seeds_from H B l) (sym (add-zero i))
  skip_by i (suc d) h none =
      let e : (i + d) + 1 ≡ i + suc d = omega arith in
      skip_by i d (omega arith) (λ j g k. none j g (omega arith)) ∙ seeds_idle (i + d) (omega arith) (none (i + d) (omega arith) (omega arith)) ∙ ap (seeds_from H B l) e

  -- entries with no obligation are passed over
  pub seeds_skip : (i k : ℕ) → i ≤ k → k ≤ B.width → ((j : ℕ) → i ≤ j → j < k → obliged_at B l j ≡ None) → seeds_from H B l i ≡ seeds_from H B l k
  seeds_skip i k h w none =
      let e : i + (k - i) ≡ k = omega arith in
      skip_by i (k - i) (omega arith) (λ j g m. none j g (omega arith)) ∙ ap (seeds_from H B l) e

-- the members of the set are the entries that the label holds with a sign by which they oblige
pub record Signed (p : Plan) (l : Label) (set : ℕ) : Type 0 where
  inside : (j : ℕ) → has set j ≡ true → j < p.width
  idle : (j : ℕ) → j < p.width → has set j ≡ false → (u : Bool) → (in_label l u j && obliging_entry (listed_entry p.entries j) u) ≡ false

pub signed_from : (p : Plan) (l c : Label) (set : ℕ) → c ≡ common l p.obliging → ((j : ℕ) → has set j ≡ (has c.plus j || has c.minus j)) → Signed p l set
unfolding in_label
signed_from p l c set is both = record { inside = inside; idle = idle }
  where
    at : (u : Bool) (j : ℕ) → in_label c u j ≡ (in_label l u j && (ltb j p.width && obliging_entry (listed_entry p.entries j) u))
    at true j = ap (λ (m : Label). has m.plus j) is ∙ has_and l.plus p.obliging.plus j ∙ ap (λ b. has l.plus j && b) (p.obliging_are true j)
    at false j = ap (λ (m : Label). has m.minus j) is ∙ has_and l.minus p.obliging.minus j ∙ ap (λ b. has l.minus j && b) (p.obliging_are false j)

    far : (u : Bool) (j : ℕ) → in_label c u j ≡ true → j < p.width
    far u j h =
        let m = and_parts (in_label l u j) (ltb j p.width && obliging_entry (listed_entry p.entries j) u) (sym (at u j) ∙ h) in
        ltb-true j p.width (and_parts (ltb j p.width) (obliging_entry (listed_entry p.entries j) u) m.1).0

    inside : (j : ℕ) → has set j ≡ true → j < p.width
    inside j h = ⊎_elim (λ t. far true j (in_plus c true j refl ∙ t)) (λ t. far false j (in_minus c false j refl ∙ t)) (or_cases (has c.plus j) (has c.minus j) (sym (both j) ∙ h))

    none : (u : Bool) (j : ℕ) → has set j ≡ false → in_label c u j ≡ false
    none true j h = in_plus c true j refl ∙ (or_parts (has c.plus j) (has c.minus j) (sym (both j) ∙ h)).0
    none false j h = in_minus c false j refl ∙ (or_parts (has c.plus j) (has c.minus j) (sym (both j) ∙ h)).1

    idle : (j : ℕ) → j < p.width → has set j ≡ false → (u : Bool) → (in_label l u j && obliging_entry (listed_entry p.entries j) u) ≡ false
    idle j low h u =
        ap (λ b. in_label l u j && (b && obliging_entry (listed_entry p.entries j) u)) (sym (lt-ltb j p.width low)) ∙ sym (at u j) ∙ none u j h

-- the entries from k up to `start` have no obligation
abbrev pub Passed : RoleBox → Table → Label → ℕ → ℕ → Type 0
Passed H B l k start = (seeds_from H B l k ≡ seeds_from H B l start) × (k ≤ start) × (start ≤ B.width)

module _ (p : Plan) (l : Label) (set : ℕ) (signed : Signed p l set) where
  abbrev H : RoleBox
  H = box_in p

  abbrev B : Table
  B = table_in p

  unsigned : (j : ℕ) → j < B.width → has set j ≡ false → obliged_at B l j ≡ None
  unsigned j h e = idle_at B l j (signed.idle j h e)

  -- a member of the set is an entry of the table
  pub signed_in : (i : ℕ) → has set i ≡ true → i < B.width
  signed_in i e = signed.inside i e

  -- up to the next member there is no obligation
  pub passed_to : (k start i : ℕ) → Passed H B l k start → NextFrom set start i → Passed H B l k i
  passed_to k start i p n =
      let w = signed_in i n.member in
      let skipped = seeds_skip H B l start i n.after (omega arith) (λ j g h. unsigned j (omega arith) (n.between j g h)) in
      (p.0 ∙ skipped, omega (arith, p.1, n.after), omega arith)

  -- at a member with no obligation it goes on
  pub passed_idle : (k start i : ℕ) → Passed H B l k start → NextFrom set start i → seeds_from H B l i ≡ seeds_from H B l (i + 1) → Passed H B l k (i + 1)
  passed_idle k start i p n e =
      let w = signed_in i n.member in
      let q = passed_to k start i p n in
      (q.0 ∙ e, omega (arith, q.1), omega arith)

  -- one with an obligation is the first
  pub passed_found : (k start i : ℕ) (found : Label) → Passed H B l k start → NextFrom set start i → seeds_from H B l i ≡ found ∷ seeds_from H B l (i + 1)
      → (seeds_from H B l k ≡ found ∷ seeds_from H B l (i + 1)) × (k < i + 1)
  passed_found k start i found p n e =
      let q = passed_to k start i p n in
      (q.0 ∙ e, omega (arith, q.1))

  -- with no member left there is none
  pub passed_all : (k start : ℕ) → Passed H B l k start → NoneFrom set start → seeds_from H B l k ≡ []
  passed_all k start p none =
      p.0 ∙ seeds_skip H B l start B.width p.2 (omega arith) (λ j g h. unsigned j h (none j g)) ∙ seeds_past H B l B.width (omega arith)
