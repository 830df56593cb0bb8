-- What a signed restriction says of the successors of an individual.
use Rattle.std.proofs.Common.{◌≡◌, ℕ, zero, suc, ◌<◌, Bool, true, false, not, ◌&&◌, ◌||◌, refl, ⊎_elim, arith}
use Rattle.std.proofs.lemmas.Bool.{cases_Bool, and_parts, and_from, or_parts, both_ways, not-true, not-false, and_cases, or_from, not_from_true, not_from_false}
use Rattle.meaning.specs.Bounded.{all}
use Rattle.meaning.specs.Worlds.{Interpretation, denotes}
use Rattle.meaning.specs.declared.Concept.TheVariants.{Restriction}
use Rattle.meaning.specs.declared.Quantifier.{Quantifier}
use Rattle.meaning.specs.declared.Quantifier.TheVariants.{Exists, Forall, NoneOf}
use Rattle.meaning.proofs.Tests.{any_from, any_some, any_none, none_any, all_from, all_at}
use Rattle.meaning.proofs.Implying.{implied, implies}
use Rattle.tableau.specs.Seeds.{obliges, sign_of}
use Rattle.tableau.proofs.Tests.{excluded, excludes}

-- where `all` fails, the test fails somewhere
all_fails : (n : ℕ) (p : ℕ → Bool) → all n p ≡ false → (k : ℕ) × (k < n) × (p k ≡ false)
unfolding all
all_fails zero p e = absurd (both_ways true e refl)
all_fails (suc n) p e = ⊎_elim
    (λ h. (n, omega arith, h))
    (λ h. let r = all_fails n p h in (r.0, omega (arith, r.1), r.2))
    (and_cases (p n) (all n p) e)

-- and where it fails somewhere, `all` fails
fails_all : (n k : ℕ) (p : ℕ → Bool) → k < n → p k ≡ false → all n p ≡ false
fails_all n k p l e = ⊎_elim (λ h. absurd (both_ways (p k) e (all_at n p h k l))) (λ h. h) (cases_Bool (all n p))

module _ (W : Interpretation) (r a x : ℕ) (h : ℕ → ℕ → Bool) where
  -- an obligation that holds has a successor
  pub obliged : (q : Quantifier) (s : Bool) → obliges q s ≡ true → denotes W (Restriction q r a) h x ≡ s
      → (y : ℕ) × (y < W.size) × (W.joins r x y ≡ true) × (h a y ≡ sign_of q s)
  obliged Exists true o e =
      let k = any_some W.size (λ y. W.joins r x y && h a y) e in
      let p = and_parts (W.joins r x k.0) (h a k.0) k.2 in
      (k.0, k.1, p.0, p.1)
  obliged Exists false o e = absurd (both_ways false refl o)
  obliged Forall true o e = absurd (both_ways false refl o)
  obliged Forall false o e =
      let k = all_fails W.size (λ y. not (W.joins r x y) || h a y) e in
      let p = or_parts (not (W.joins r x k.0)) (h a k.0) k.2 in
      (k.0, k.1, not-false (W.joins r x k.0) p.0, p.1)
  obliged NoneOf true o e = absurd (both_ways false refl o)
  obliged NoneOf false o e =
      let k = all_fails W.size (λ y. not (W.joins r x y) || not (h a y)) e in
      let p = or_parts (not (W.joins r x k.0)) (not (h a k.0)) k.2 in
      (k.0, k.1, not-false (W.joins r x k.0) p.0, not-false (h a k.0) p.1)

  -- a restriction that holds says what every successor is
  pub restricted : (q : Quantifier) (s : Bool) → obliges q s ≡ false → denotes W (Restriction q r a) h x ≡ s
      → (y : ℕ) → y < W.size → W.joins r x y ≡ true → h a y ≡ sign_of q s
  restricted Exists true o e y l j = absurd (both_ways true o refl)
  restricted Exists false o e y l j = excluded (W.joins r x y) (h a y) (any_none W.size (λ y. W.joins r x y && h a y) e y l) j
  restricted Forall true o e y l j = implied (W.joins r x y) (h a y) (all_at W.size (λ y. not (W.joins r x y) || h a y) e y l) j
  restricted Forall false o e y l j = absurd (both_ways true o refl)
  restricted NoneOf true o e y l j = not-true (h a y) (implied (W.joins r x y) (not (h a y)) (all_at W.size (λ y. not (W.joins r x y) || not (h a y)) e y l) j)
  restricted NoneOf false o e y l j = absurd (both_ways true o refl)

  -- and the converses
  pub oblige : (q : Quantifier) (s : Bool) → obliges q s ≡ true → (y : ℕ) → y < W.size → W.joins r x y ≡ true → h a y ≡ sign_of q s
      → denotes W (Restriction q r a) h x ≡ s
  oblige Exists true o y l j e = any_from W.size y (λ y. W.joins r x y && h a y) l (and_from (W.joins r x y) (h a y) j e)
  oblige Exists false o y l j e = absurd (both_ways false refl o)
  oblige Forall true o y l j e = absurd (both_ways false refl o)
  oblige Forall false o y l j e = fails_all W.size y (λ y. not (W.joins r x y) || h a y) l (or_from (not (W.joins r x y)) (h a y) (not_from_true (W.joins r x y) j) e)
  oblige NoneOf true o y l j e = absurd (both_ways false refl o)
  oblige NoneOf false o y l j e =
      fails_all W.size y (λ y. not (W.joins r x y) || not (h a y)) l (or_from (not (W.joins r x y)) (not (h a y)) (not_from_true (W.joins r x y) j) (not_from_true (h a y) e))

  pub restrict : (q : Quantifier) (s : Bool) → obliges q s ≡ false → ((y : ℕ) → y < W.size → W.joins r x y ≡ true → h a y ≡ sign_of q s)
      → denotes W (Restriction q r a) h x ≡ s
  restrict Exists true o f = absurd (both_ways true o refl)
  restrict Exists false o f = none_any W.size (λ y. W.joins r x y && h a y) (λ y l. excludes (W.joins r x y) (h a y) (f y l))
  restrict Forall true o f = all_from W.size (λ y. not (W.joins r x y) || h a y) (λ y l. implies (W.joins r x y) (h a y) (f y l))
  restrict Forall false o f = absurd (both_ways true o refl)
  restrict NoneOf true o f =
      all_from W.size (λ y. not (W.joins r x y) || not (h a y)) (λ y l. implies (W.joins r x y) (not (h a y)) (λ j. not_from_false (h a y) (f y l j)))
  restrict NoneOf false o f = absurd (both_ways true o refl)
