-- The items of a line, and the numbers that they write.
use Rattle.std.specs.Prelude.{◌≡◌, ℕ, ◌^◌, ◌<◌, List, Option, Some, None, ◌==◌}
use Rattle.std.specs.List.{before_first, after_first}
use Rattle.std.specs.Str.{trim_start}
use Rattle.std.specs.Str.Parse.{IsNumeral, digits_value}

-- what stands before the first space
abbrev pub first_item : List ℕ → List ℕ
first_item text = before_first (λ b. b == 32) text

-- what stands after it, without the white space at its start
abbrev pub other_items : List ℕ → List ℕ
other_items text = trim_start (after_first (λ b. b == 32) text)

-- decimal digits alone, at least one, that write a number below 2 ^ 64
abbrev pub IsNumber : List ℕ → Type 0
IsNumber text = IsNumeral 10 text × (digits_value 10 text < 2 ^ 64)

-- the number that a text writes, or none
abbrev pub Writes : List ℕ → Option ℕ → Type 0
Writes text (Some n) = IsNumber text × (n ≡ digits_value 10 text)
Writes text None = ¬ (IsNumber text)
