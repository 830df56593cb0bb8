-- The lowest member of a set of entries.
use Rattle.std.specs.Prelude.{◌≡◌, ℕ, ◌<◌, true, false, not, ◌&&◌, ◌==◌}
use Rattle.words.specs.Sets.{has}

-- i is the lowest member of the set, and `rest` is the set without it
pub record TakesLowest (set i rest : ℕ) : Type 0 where
  pub inside : i < 64
  pub member : has set i ≡ true
  pub before : (j : ℕ) → j < i → has set j ≡ false
  pub left : (j : ℕ) → has rest j ≡ (has set j && not (j == i))
