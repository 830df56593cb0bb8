-- The bytes that a text gives in hex, and the words that the items of a sheet line give.
use Rattle.std.specs.Prelude.{◌≡◌, ℕ, ◌+◌, ◌*◌, ◌^◌, ◌<◌, ◌≤◌, min, true, List, [], ◌∷◌, ◌++◌, length, replicate, Some, None, Option, is_some, ◌==◌, slice_set}
use Rattle.std.specs.Char.{is_whitespace, is_not_whitespace}
use Rattle.std.specs.Str.{NoCharPasses, EmptyOrStartsWithPassing}
use Rattle.std.specs.Str.Parse.{IsNumeral, digits_value}
use Rattle.std.specs.List.{before_first, after_first, list_all, position_or_len}
use Rattle.grammar.specs.Items.{Writes}
use Rattle.script.specs.Digits.{digit_of}

-- goes on with what there is
abbrev pub if_some : {A B : Type 0} → Option A → (A → Option B) → Option B
if_some (Some x) f = f x
if_some None f = None

-- the byte that two digits write, the high one first, if these are two digits
abbrev pub byte_of : List ℕ → Option ℕ
byte_of [] = None
byte_of (a ∷ []) = None
byte_of (a ∷ b ∷ []) = if_some (digit_of a) (λ high. if_some (digit_of b) (λ low. Some (16 * high + low)))
byte_of (a ∷ b ∷ c ∷ more) = None

abbrev pub led_by : ℕ → Option (List ℕ) → Option (List ℕ)
led_by b (Some bs) = Some (b ∷ bs)
led_by b None = None

-- the bytes that a text gives: two digits for each, and nothing else
abbrev pub bytes_in : List ℕ → Option (List ℕ)
bytes_in [] = Some []
bytes_in (a ∷ []) = None
bytes_in (a ∷ b ∷ text) = if_some (byte_of (a ∷ b ∷ [])) (λ byte. led_by byte (bytes_in text))

-- 1 to 16 hex digits, which write a number below 2 ^ 64
abbrev pub IsWord : List ℕ → Type 0
IsWord text = (length text ≤ 16) × (list_all (λ b. is_some (digit_of b)) text ≡ true) × IsNumeral 16 text × (digits_value 16 text < 2 ^ 64)

-- the word that a text writes, or none
abbrev pub WritesWord : List ℕ → Option ℕ → Type 0
WritesWord text (Some w) = IsWord text × (w ≡ digits_value 16 text)
WritesWord text None = ¬ (IsWord text)

-- the item has a colon; what stands before the first, and what stands after it
abbrev pub HasColon : List ℕ → Type 0
HasColon item = position_or_len (λ b. b == 58) item < length item

abbrev pub before_colon : List ℕ → List ℕ
before_colon item = before_first (λ b. b == 58) item

abbrev pub after_colon : List ℕ → List ℕ
after_colon item = after_first (λ b. b == 58) item

-- the item is a place, a colon and a word
abbrev pub Names : List ℕ → ℕ → ℕ → Type 0
Names item place word = HasColon item × Writes (before_colon item) (Some place) × WritesWord (after_colon item) (Some word)

-- the place and the word that an item names, if it is one that names them
abbrev pub NamesAs : List ℕ → Option (ℕ × ℕ) → Type 0
NamesAs item (Some x) = Names item x.0 x.1
NamesAs item None = (place word : ℕ) → ¬ (Names item place word)

-- The first item of a text, and what is left after it: white space may stand before the item, none is in it, and some stands
-- after it unless the text ends there.
abbrev pub Next : List ℕ → List ℕ → List ℕ → Type 0
Next text item rest =
    (gap : List ℕ) × (text ≡ gap ++ (item ++ rest)) × (0 < length item) × NoCharPasses is_not_whitespace gap
    × NoCharPasses is_whitespace item × ((more : List ℕ) × EmptyOrStartsWithPassing is_whitespace rest more)

-- What comes of the words that are held where the items of a text are written into them: each item names a word below the count,
-- one that is not held is left out, and the later of two that name the same word counts. None where an item names no such word.
pub data Fills (count : ℕ) : List ℕ → List ℕ → Option (List ℕ) → Type 0 where
  no_item : (words text : List ℕ) → NoCharPasses is_not_whitespace text → Fills count words text (Some words)
  bad_item : (words text item rest : List ℕ) → Next text item rest → ((place word : ℕ) → place < count → ¬ (Names item place word)) → Fills count words text None
  one_item : (words text item rest : List ℕ) (place word : ℕ) (r : Option (List ℕ)) → Next text item rest → Names item place word → place < count
      → Fills count (slice_set words place word) rest r → Fills count words text r

-- No sheet needs more words than this, and no more are held: the count, 64 names, and 64 rows for each of 64 roles.
abbrev pub most_words : ℕ
most_words = 4161

-- the words of a sheet of so many words, where the items of the text name those that are not 0; none where they do not
abbrev pub WordsIn : ℕ → List ℕ → Option (List ℕ) → Type 0
WordsIn count text r = Fills count (replicate (min count most_words) 0) text r
