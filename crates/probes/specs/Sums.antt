-- A count that is taken over and over, and added up in one word.
use Rattle.std.specs.Prelude.{ℕ, ◌-◌, ◌*◌, ◌^◌, min}

-- n, so many times; where that does not fit a word, the greatest word
abbrev pub added : ℕ → ℕ → ℕ
added times n = min (times * n) (2 ^ 64 - 1)
