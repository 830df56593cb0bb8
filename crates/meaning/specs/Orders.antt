-- Orders of roles, and their law.
use Rattle.std.specs.Prelude.{◌≡◌, ℕ, ◌<◌, ◌≤◌, Bool, true}

-- the relation is one on the numbers below n, reflexive and transitive
pub record Lawful (n : ℕ) (under : ℕ → ℕ → Bool) : Type 0 where
  pub few : n ≤ 64
  pub within : (r s : ℕ) → under r s ≡ true → (r < n) × (s < n)
  pub reflexive : (r : ℕ) → r < n → under r r ≡ true
  pub transitive : (r s t : ℕ) → under r s ≡ true → under s t ≡ true → under r t ≡ true

-- what a hierarchy says: how many roles there are, which is below which, and which are transitive
pub record RoleBox : Type 0 where
  pub count : ℕ
  pub below : ℕ → ℕ → Bool
  pub transitive : ℕ → Bool

-- a hierarchy by the ghost members of its traits
abbrev pub role_box : ℕ → (ℕ → ℕ → Bool) → (ℕ → Bool) → RoleBox
role_box n under passing = record { count = n; below = under; transitive = passing }
