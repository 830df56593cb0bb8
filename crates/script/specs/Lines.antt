-- The lines of the answers, byte by byte.
use Rattle.std.specs.Prelude.{ℕ, ◌+◌, ◌/◌, ◌%◌, Bool, true, false, cond, List, [], ◌∷◌, ◌++◌, length, take, codes, decimal, ◌==◌}
use Rattle.std.specs.Char.{encode_utf8}
use Rattle.std.specs.Fmt.{digits, digit_glyph}
use Rattle.book.specs.Pieces.{Kind, of_roles, of_pairs, of_concepts, of_rules, of_note, of_trailer, Piece}
use Rattle.sheet.specs.Sheets.{needed}

-- a line that is no call
abbrev pub bad_line : ℕ → List ℕ
bad_line number = codes "bad line " ++ (decimal number ++ codes "\n")

-- the four counts of a book
abbrev pub read_line : (roles pairs entries rules : ℕ) → List ℕ
read_line roles pairs entries rules =
    codes "read " ++ (decimal roles ++ (codes " " ++ (decimal pairs ++ (codes " " ++ (decimal entries ++ (codes " " ++ (decimal rules ++ codes "\n")))))))

-- a byte in hex, by two digits, and bytes one after another
abbrev pub hex_byte : ℕ → List ℕ
hex_byte b = digit_glyph false (b / 16) ∷ digit_glyph false (b % 16) ∷ []

abbrev pub hex_bytes : List ℕ → List ℕ
hex_bytes [] = []
hex_bytes (b ∷ bs) = hex_byte b ++ hex_bytes bs

-- the names of the kinds of parts
abbrev pub name_of_kind : Kind → List ℕ
name_of_kind of_roles = codes "roles"
name_of_kind of_pairs = codes "pairs"
name_of_kind of_concepts = codes "concepts"
name_of_kind of_rules = codes "rules"
name_of_kind of_note = codes "note"
name_of_kind of_trailer = codes "trailer"

-- nothing for no bytes, else a space and the bytes
abbrev pub hex_item : List ℕ → List ℕ
hex_item [] = []
hex_item (b ∷ bs) = codes " " ++ hex_bytes (b ∷ bs)

-- a part: its kind, its place, its length and its bytes
abbrev pub line_of_part : List ℕ → ℕ → List ℕ → List ℕ
line_of_part kind place bytes =
    kind ++ (codes " " ++ (decimal place ++ (codes " " ++ (decimal (length bytes) ++ (hex_item bytes ++ codes "\n")))))

abbrev pub part_line : Piece → List ℕ
part_line p = line_of_part (name_of_kind p.kind) p.place p.bytes

abbrev pub part_lines : List Piece → List ℕ
part_lines [] = []
part_lines (p ∷ ps) = part_line p ++ part_lines ps

-- how many individuals a sheet has
abbrev pub sheet_line : ℕ → List ℕ
sheet_line m = codes "sheet " ++ (decimal m ++ codes "\n")

-- a set of individuals, as the word with these bits
abbrev pub set_line : ℕ → List ℕ
set_line w = codes "set " ++ (digits 16 false w ++ codes "\n")

abbrev pub keeps_line : Bool → List ℕ
keeps_line true = codes "keeps yes\n"
keeps_line false = codes "keeps no\n"

-- how many working entries an opened register has
abbrev pub open_line : ℕ → List ℕ
open_line w = codes "open " ++ (decimal w ++ codes "\n")

abbrev pub class_line : ℕ → List ℕ
class_line n = codes "class " ++ (decimal n ++ codes "\n")

-- nothing for the word 0, else a space, the place of the word, a colon and the word in hex
abbrev pub word_item : ℕ → ℕ → List ℕ
word_item place word = cond (word == 0) [] (codes " " ++ (decimal place ++ (codes ":" ++ digits 16 false word)))

-- the words from a place on
abbrev pub word_items : ℕ → List ℕ → List ℕ
word_items place [] = []
word_items place (word ∷ words) = word_item place word ++ word_items (place + 1) words

-- A world that was shown on a sheet: how many individuals, the side, and of the words that it needs for so many roles those that
-- are not 0.
abbrev pub shown_line : (roles m side : ℕ) → List ℕ → List ℕ
shown_line roles m side words =
    codes "shown " ++ (decimal m ++ (codes " " ++ (decimal side ++ (word_items 0 (take (needed roles m) words) ++ codes "\n"))))

-- what the call for C hosts answers
abbrev pub relation_line : ℕ → List ℕ
relation_line n = codes "c " ++ (decimal n ++ codes "\n")

-- each byte as a character, and a semicolon for a newline
abbrev pub with_semicolons : List ℕ → List ℕ
with_semicolons [] = []
with_semicolons (b ∷ bs) = encode_utf8 (cond (b == 10) 59 b) ++ with_semicolons bs

-- the lines of all classes on one line
abbrev pub classes_line : List ℕ → List ℕ
classes_line lines = codes "classes " ++ (with_semicolons lines ++ codes "\n")
