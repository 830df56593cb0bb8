-- What the role section and the pair section of a book tell.
use Rattle.std.specs.Prelude.{ℕ, ◌+◌, ◌*◌, ◌/◌, ◌<◌, Bool, ◌&&◌, List, length, ◌==◌, slice_index}
use Rattle.meaning.specs.Bounded.{any}

-- one of the pairs (two bytes each, the lower role and the upper one) says that r is below s
unfoldable pub told : List ℕ → ℕ → ℕ → Bool
told pairs r s = any (length pairs / 2) (λ k. (slice_index pairs (2 * k) == r) && slice_index pairs (2 * k + 1) == s)

-- a role is transitive if its record says so
abbrev pub marked : List ℕ → ℕ → Bool
marked roles r = slice_index roles r == 1

-- the bytes of the pairs are all below n
abbrev pub Inside : ℕ → List ℕ → Type 0
Inside n pairs = (k : ℕ) → k < length pairs → slice_index pairs k < n
