-- An order kept as rows: row r is the set of what r is below.
use Rattle.std.specs.Prelude.{ℕ, Bool, List, slice_index}
use Rattle.words.specs.Sets.{has}
pub use Rattle.roles.specs.Laws.{lawful_known}

abbrev pub related : List ℕ → ℕ → ℕ → Bool
related rows r s = has (slice_index rows r) s
