-- The most records that each section may have.
use Rattle.std.specs.Prelude.{ℕ}

abbrev pub most_roles : ℕ
most_roles = 64

abbrev pub most_pairs : ℕ
most_pairs = 256

abbrev pub most_entries : ℕ
most_entries = 60

abbrev pub most_rules : ℕ
most_rules = 32
