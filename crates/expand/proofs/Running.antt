-- A run of entries without alternatives: what comes of the label that it ends with comes of the label that it starts from.
use Rattle.std.proofs.Common.{◌≡◌, ℕ, zero, suc, ◌+◌, ◌-◌, ◌<◌, ◌≤◌, Bool, true, false, cond, ◌&&◌, ◌||◌, ltb, [], ◌∷◌, sym, refl, ap, ◌∙◌, ap₂, ⊎_elim, arith, pow_mono, MatchOption}
use Rattle.std.proofs.lemmas.Bool.{and_parts, or_cases, or_left, or_right, both_ways, lt-ltb, ltb-true, cond_both}
use Rattle.std.specs.Bool.{then_some}
use Rattle.words.specs.Sets.{has}
use Rattle.tableau.specs.declared.Label.{Label}
use Rattle.words.proofs.Words.{has_and}
use Rattle.meaning.specs.declared.Concept.TheVariants.{Nothing, Everything, Name, Not, And, Or, Restriction}
use Rattle.tableau.specs.declared.Entry.{Entry}
use Rattle.tableau.specs.declared.Entry.TheVariants.{Plain, Inclusion, Inclusions}
use Rattle.tableau.specs.Labels.{in_label, common}
use Rattle.tableau.specs.Entries.{Table, LowerEntry}
use Rattle.tableau.specs.Expansions.{One, clash, grown, taken}
use Rattle.plan.specs.declared.Plan.{Plan}
use Rattle.plan.specs.Plans.{listed_entry}
use Rattle.plan.specs.Signs.{grows}
use Rattle.expand.specs.Choices.{weight, from, FirstFrom}
use Rattle.expand.specs.Runs.{Free, Along}
use Rattle.expand.proofs.Choosing.{from_clash}
use Rattle.expand.proofs.Enumerating.{one_from}

-- a value that a test lets through
pub some_if : {A : Type 0} (P : Type 0) (Q : A → Type 0) (b : Bool) (x : A) → (b ≡ true → Q x) → (b ≡ false → P) → MatchOption (then_some b x) P Q
some_if P Q true x q p = q refl
some_if P Q false x q p = p refl

pub weight_more : (j k : ℕ) → j ≤ k → weight j ≤ weight k
unfolding weight
weight_more j k h = let g : j - 1 ≤ k - 1 = omega arith in pow_mono g

-- an entry that asks for nothing with the sign
grown_none : (e : Entry) (s : Bool) (l : Label) → grows e s ≡ false → grown e s l ≡ One l
grown_none (Plain Nothing) s l h = refl
grown_none (Plain Everything) s l h = refl
grown_none (Plain (Name n)) s l h = refl
grown_none (Plain (Not a)) s l h = absurd (both_ways true h refl)
grown_none (Plain (And a b)) s l h = absurd (both_ways true h refl)
grown_none (Plain (Or a b)) s l h = absurd (both_ways true h refl)
grown_none (Plain (Restriction q r a)) s l h = refl
grown_none (Inclusion c d) true l h = absurd (both_ways true h refl)
grown_none (Inclusion c d) false l h = refl
grown_none (Inclusions lo n) true l h = absurd (both_ways true h refl)
grown_none (Inclusions lo n) false l h = refl

-- or that the label does not hold with it
taken_idle : (e : Entry) (k : ℕ) (l : Label) → ((s : Bool) → (in_label l s k && grows e s) ≡ false) → taken e k l ≡ One l
unfolding taken
taken_idle e k l idle =
    cond_both (in_label l true k) (grown e true l) (cond (in_label l false k) (grown e false l) (One l)) (λ w. w ≡ One l)
    (λ h. grown_none e true l (idle_at true h))
    (λ g. cond_both (in_label l false k) (grown e false l) (One l) (λ w. w ≡ One l) (λ h. grown_none e false l (idle_at false h)) (λ h. refl))
  where
    idle_at : (s : Bool) → in_label l s k ≡ true → grows e s ≡ false
    idle_at s h = ap (λ b. b && grows e s) (sym h) ∙ idle s

clear : (p m w : Bool) → ((p || m) && w) ≡ false → w ≡ true → (p ≡ false) × (m ≡ false)
clear true m true e t = absurd (both_ways true e refl)
clear false true true e t = absurd (both_ways true e refl)
clear false false true e t = (refl, refl)
clear p m false e t = absurd (both_ways false refl t)

-- The signed entries below k that a label holds and by which it may grow, as a word: c are those that it holds, u has those of
-- both signs, and b the numbers below k.
module _ (p : Plan) (l c : Label) (u b held k : ℕ) (few : k ≤ p.width)
    (hc : c ≡ common l p.growing)
    (hu : (j : ℕ) → has u j ≡ (has c.plus j || has c.minus j)) (hb : (j : ℕ) → has b j ≡ ltb j k) (hh : (j : ℕ) → has held j ≡ (has u j && has b j)) where
  held_is : (j : ℕ) → has held j ≡ ((has c.plus j || has c.minus j) && ltb j k)
  held_is j = hh j ∙ ap₂ (λ x y. x && y) (hu j) (hb j)

  common_at : (s : Bool) (j : ℕ) → in_label c s j ≡ (in_label l s j && in_label p.growing s j)
  unfolding in_label
  common_at true j = ap (λ (m : Label). has m.plus j) hc ∙ has_and l.plus p.growing.plus j
  common_at false j = ap (λ (m : Label). has m.minus j) hc ∙ has_and l.minus p.growing.minus j

  pub held_below : (j : ℕ) → has held j ≡ true → j < k
  held_below j h = ltb-true j k (and_parts (has c.plus j || has c.minus j) (ltb j k) (sym (held_is j) ∙ h)).1

  pub held_in : (j : ℕ) → has held j ≡ true → (in_label l true j || in_label l false j) ≡ true
  unfolding in_label
  held_in j h = ⊎_elim
      (λ t. or_left (has l.plus j) (has l.minus j) (and_parts (has l.plus j) (has p.growing.plus j) (sym (common_at true j) ∙ t)).0)
      (λ t. or_right (has l.plus j) (has l.minus j) (and_parts (has l.minus j) (has p.growing.minus j) (sym (common_at false j) ∙ t)).0)
      (or_cases (has c.plus j) (has c.minus j) (and_parts (has c.plus j || has c.minus j) (ltb j k) (sym (held_is j) ∙ h)).0)

  uncommon : (j : ℕ) → j < k → has held j ≡ false → (s : Bool) → in_label c s j ≡ false
  unfolding in_label
  uncommon j lt h true = (clear (has c.plus j) (has c.minus j) (ltb j k) (sym (held_is j) ∙ h) (lt-ltb j k lt)).0
  uncommon j lt h false = (clear (has c.plus j) (has c.minus j) (ltb j k) (sym (held_is j) ∙ h) (lt-ltb j k lt)).1

  pub unheld : (j : ℕ) → j < k → has held j ≡ false → taken (listed_entry p.entries j) j l ≡ One l
  unheld j lt h = taken_idle (listed_entry p.entries j) j l (λ s.
      ap (λ b. in_label l s j && b) (sym (p.growing_are s j ∙ ap (λ b. b && grows (listed_entry p.entries j) s) (lt-ltb j p.width (omega arith))))
      ∙ sym (common_at s j) ∙ uncommon j lt h s)

-- entries by which the label stays as it is change nothing
skip : (B : Table) (l : Label) (i d k : ℕ) → k ≡ i + d → Free B l i k → (c : ℕ) → from B k l c ≡ from B i l c
skip B l i zero k e free c = ap (λ n. from B n l c) (omega arith)
skip B l i (suc d) k e free c =
    let q : k ≡ suc (i + d) = omega arith in
    one_from B k (i + d) l q l (free (i + d) (omega arith) (omega arith)) c
    ∙ skip B l i d (i + d) refl (λ j a b. free j a (omega arith)) c

module _ (B : Table) (k : ℕ) (l : Label) where
  module _ (left : ℕ) (at : Label) (so : Along B k l left at) where
    pub along_free : (i : ℕ) → i ≤ left → Free B at i left → Along B k l i at
    along_free i h free = record {
      few = omega (arith, so.few);
      same = λ c. so.same c ∙ skip B at i (left - i) left (omega arith) free c;
    }

    pub along_dead : ((i : ℕ) → LowerEntry i (B.entry i)) → clash B at ≡ true → (c : ℕ) → from B k l c ≡ []
    along_dead low e c = so.same c ∙ from_clash B low left at c e

    pub along_first : (c : ℕ) (p : Label × ℕ) → FirstFrom B left at c p → FirstFrom B k l c p
    along_first c p h = (
      so.same c ∙ h.0 ∙ ap (λ ls. p.0 ∷ ls) (sym (so.same (p.1 + 1))),
      omega (arith, h.1, weight_more left k so.few),
    )

  pub along_one : (left i : ℕ) (at m : Label) → Along B k l left at → i < left → Free B at (i + 1) left → taken (B.entry i) i at ≡ One m → Along B k l i m
  along_one left i at m so h free t =
      let far = along_free left at so (i + 1) (omega arith) free in
      record {
        few = omega (arith, far.few);
        same = λ c. far.same c ∙ one_from B (i + 1) i at (omega arith) m t c;
      }
