-- The lines of a listing, byte by byte.
use Rattle.std.specs.Prelude.{ℕ, ◌+◌, ◌/◌, ◌%◌, List, [], ◌∷◌, ◌++◌, codes}

-- The last two decimal digits of n. Entries are below 60, class numbers at most 24 and the numbers of refusals at most 17,
-- so that these are all their digits.
unfoldable pub both_digits : ℕ → List ℕ
both_digits n = (48 + n % 100 / 10) ∷ (48 + n % 100 % 10) ∷ []

-- "class", a space, the entry, a space, the class number, a newline
unfoldable pub line_of_class : ℕ → ℕ → List ℕ
line_of_class entry class = codes "class " ++ (both_digits entry ++ (codes " " ++ (both_digits class ++ codes "\n")))

-- "denied", a space, the entry, a space, the number of the refusal, a newline
unfoldable pub line_of_denied_entry : ℕ → ℕ → List ℕ
line_of_denied_entry entry number = codes "denied " ++ (both_digits entry ++ (codes " " ++ (both_digits number ++ codes "\n")))

-- "book", a space, the number of the refusal, a newline
unfoldable pub line_of_book : ℕ → List ℕ
line_of_book number = codes "book " ++ (both_digits number ++ codes "\n")
