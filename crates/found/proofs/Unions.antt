-- Sets of numbers below m, joined as words.
use Rattle.std.proofs.Common.{◌≡◌, ℕ, suc, ◌+◌, ◌^◌, ◌<◌, ◌≤◌, Bool, true, false, cond, ◌&&◌, ◌||◌, ltb, sym, refl, ap, ◌∙◌, add-one, arith, pow_mono}
use lib.Bits.{bit_or, or_lt}
use Rattle.words.specs.Sets.{has, set_of}
use Rattle.words.proofs.Words.{has_or, comprehends, set_is}
use Rattle.meaning.specs.Bounded.{any}
use Rattle.sheet.proofs.Sets.{none_set, set_same}
use Rattle.found.specs.Rows.{share_of}

-- a set of numbers below m fits a word
pub set_word : (m : ℕ) (p : ℕ → Bool) → m ≤ 64 → set_of m p < 2 ^ 64
set_word m p few = let w = pow_mono few in omega (arith, (comprehends m p).fits)

-- two sets of numbers below m, joined
pub set_or : (m : ℕ) (p q s : ℕ → Bool) → m ≤ 64 → ((y : ℕ) → (p y || q y) ≡ s y) → bit_or (set_of m p) (set_of m q) ≡ set_of m s
set_or m p q s few same =
    set_is m (bit_or (set_of m p) (set_of m q)) s few (or_lt 64 (set_of m p) (set_of m q) (set_word m p few) (set_word m q few))
    (λ y. has_or (set_of m p) (set_of m q) y
    ∙ ap (λ b. b || has (set_of m q) y) ((comprehends m p).members y) ∙ ap (λ b. (ltb y m && p y) || b) ((comprehends m q).members y)
    ∙ both (ltb y m) (p y) (q y) ∙ ap (λ b. ltb y m && b) (same y))
  where
    both : (l a b : Bool) → ((l && a) || (l && b)) ≡ (l && (a || b))
    both true a b = refl
    both false a b = refl

-- a set of which no number below m is a member
pub empty_set : (m : ℕ) (p : ℕ → Bool) → m ≤ 64 → ((j : ℕ) → j < m → p j ≡ false) → 0 ≡ set_of m p
empty_set m p few none = none_set m few ∙ set_same m (λ _. false) p (λ j l. sym (none j l))

-- a set, or none
set_only : (m : ℕ) (b : Bool) (p : ℕ → Bool) → m ≤ 64 → cond b (set_of m p) 0 ≡ set_of m (λ y. b && p y)
set_only m true p few = refl
set_only m false p few = none_set m few

-- a share of two sets
pub share_is : (m : ℕ) (a b : Bool) (p q : ℕ → Bool) → m ≤ 64 → share_of a b (set_of m p) (set_of m q) ≡ set_of m (λ y. a && p y || b && q y)
share_is m a b p q few =
    ap (λ w. bit_or w (cond b (set_of m q) 0)) (set_only m a p few) ∙ ap (bit_or (set_of m (λ y. a && p y))) (set_only m b q few)
    ∙ set_or m (λ y. a && p y) (λ y. b && q y) (λ y. a && p y || b && q y) few (λ y. refl)

-- by the cases of the tests
or_turned : (a b : Bool) → (a || b) ≡ (b || a)
or_turned true true = refl
or_turned true false = refl
or_turned false true = refl
or_turned false false = refl

-- the union of the sets of f i, for each i below n, one after another
module _ (m : ℕ) (f : ℕ → ℕ → Bool) (few : m ≤ 64) where
  pub any_none : 0 ≡ set_of m (λ y. any 0 (λ i. f i y))
  unfolding any
  any_none = none_set m few

  pub any_more : (n was more : ℕ) → was ≡ set_of m (λ y. any n (λ i. f i y)) → more ≡ set_of m (f n) → bit_or was more ≡ set_of m (λ y. any (n + 1) (λ i. f i y))
  unfolding any
  any_more n was more e g =
      ap (λ w. bit_or w more) e ∙ ap (bit_or (set_of m (λ y. any n (λ i. f i y)))) g
      ∙ set_or m (λ y. any n (λ i. f i y)) (f n) (λ y. any (suc n) (λ i. f i y)) few (λ y. or_turned (any n (λ i. f i y)) (f n y))
      ∙ ap (λ k. set_of m (λ y. any k (λ i. f i y))) (sym (add-one n))
