-- A 64-bit word as a set of the numbers 0 to 63.
use Rattle.std.specs.Prelude.{◌≡◌, ℕ, zero, suc, ◌+◌, ◌/◌, ◌%◌, ◌^◌, ◌<◌, Bool, true, false, cond, ◌&&◌, ◌==◌, nat_lt}

-- k is in the set that the word w stands for: bit k of w is 1. A number past the last bit is in no word.
unfoldable pub has : ℕ → ℕ → Bool
has w k = (w / 2 ^ k) % 2 == 1

-- every member of a is in b
abbrev pub Within : ℕ → ℕ → Type 0
Within a b = (j : ℕ) → has a j ≡ true → has b j ≡ true

-- no number is in both
abbrev pub Disjoint : ℕ → ℕ → Type 0
Disjoint a b = (j : ℕ) → (has a j && has b j) ≡ false

-- words with the same members are the same
abbrev pub Determined : Type 0
Determined = (a b : ℕ) → a < 2 ^ 64 → b < 2 ^ 64 → ((k : ℕ) → k < 64 → has a k ≡ has b k) → a ≡ b

-- the word whose members are those numbers below n of which p holds
unfoldable pub set_of : ℕ → (ℕ → Bool) → ℕ
set_of zero p = 0
set_of (suc n) p = set_of n p + cond (p n) (2 ^ n) 0

-- what a test answers on the numbers below n is what p says
abbrev pub Tests : ℕ → (ℕ → Bool → Type 0) → (ℕ → Bool) → Type 0
Tests n answers p = (k : ℕ) (b : Bool) → k < n → answers k b → b ≡ p k

-- up to 64 numbers fit a word, and its members are they
pub record Comprehends (n : ℕ) (p : ℕ → Bool) : Type 0 where
  pub fits : set_of n p < 2 ^ n
  pub members : (j : ℕ) → has (set_of n p) j ≡ (nat_lt j n && p j)

abbrev pub Comprehension : Type 0
Comprehension = (n : ℕ) (p : ℕ → Bool) → Comprehends n p
