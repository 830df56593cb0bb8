-- Chains of steps of a relation, and the test for them.
use Rattle.std.specs.Prelude.{◌≡◌, ℕ, zero, suc, ◌<◌, Bool, true, ◌&&◌, ◌||◌, Decides}

-- a chain of one or more steps of R from x to y
pub data Chain (R : ℕ → ℕ → Bool) : ℕ → ℕ → Type 0 where
  one : (x y : ℕ) → R x y ≡ true → Chain R x y
  more : (x y z : ℕ) → R x y ≡ true → Chain R y z → Chain R x z

-- is there a chain from x to y whose inner places are all below k (Warshall)
unfoldable pub reach : ℕ → (ℕ → ℕ → Bool) → ℕ → ℕ → Bool
reach zero R x y = R x y
reach (suc k) R x y = reach k R x y || (reach k R x k && reach k R k y)

-- the relation is one on the numbers below n
abbrev pub On : ℕ → (ℕ → ℕ → Bool) → Type 0
On n R = (x y : ℕ) → R x y ≡ true → (x < n) × (y < n)

-- for a relation on the numbers below n the test decides whether there is a chain
abbrev pub ReachDecides : Type 0
ReachDecides = (n : ℕ) (R : ℕ → ℕ → Bool) → On n R → (x y : ℕ) → Decides (reach n R x y) (Chain R x y)
