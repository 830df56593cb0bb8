-- The parts of a book, as pieces of its bytes.
use Rattle.std.specs.Prelude.{◌≡◌, ℕ, ◌+◌, ◌-◌, ◌*◌, cond, List, [], ◌∷◌, ◌++◌, length, drop, nat_lt}
use Rattle.denial.specs.Denials.{Answer, granted, denied}
use Rattle.book.specs.declared.parts.Part.{Part}
use Rattle.book.specs.declared.parts.Part.TheVariants.{Roles, Pairs, Concepts, Rules, Note, Trailer}
use Rattle.book.specs.declared.parts.Stage.{Stage}
use Rattle.book.specs.declared.parts.Stage.TheVariants.{AtRoles, AtPairs, AtConcepts, AtRules, AtTrailer, AtEnd}
use Rattle.book.specs.declared.trailer.Layout.{Layout}
use Rattle.book.specs.Sections.{Sections}
use Rattle.book.specs.Layouts.{layout_of, trailer_start}
use Rattle.book.specs.Reading.{cut, reading}

pub data Kind : Type 0 where
  of_roles of_pairs of_concepts of_rules of_note of_trailer : Kind

pub record Piece : Type 0 where
  pub kind : Kind
  pub place : ℕ
  pub bytes : List ℕ

abbrev pub piece : Kind → ℕ → List ℕ → Piece
piece k p b = record { kind = k; place = p; bytes = b }

-- what the code's part holds
abbrev pub seen : Part → Piece
seen (Roles p b) = piece of_roles p b.now
seen (Pairs p b) = piece of_pairs p b.now
seen (Concepts p b) = piece of_concepts p b.now
seen (Rules p b) = piece of_rules p b.now
seen (Note p b) = piece of_note p b.now
seen (Trailer p b) = piece of_trailer p b.now

-- the bytes from i to j as a note, if there are any
abbrev pub note_at : List ℕ → ℕ → ℕ → List Piece
note_at bytes i j = cond (nat_lt i j) (piece of_note i (cut bytes i (j - i)) ∷ []) []

-- a part that is no note: its kind, where it starts, how many bytes it has
pub record Span : Type 0 where
  pub kind : Kind
  pub place : ℕ
  pub size : ℕ

abbrev pub span : Kind → ℕ → ℕ → Span
span k p n = record { kind = k; place = p; size = n }

-- these parts of a book, in their order
abbrev pub spans : List ℕ → Layout → List Span
spans bytes l =
    span of_roles l.roles.place l.roles.count
    ∷ span of_pairs l.pairs.place (2 * l.pairs.count)
    ∷ span of_concepts l.concepts.place (4 * l.concepts.count)
    ∷ span of_rules l.rules.place (2 * l.rules.count)
    ∷ span of_trailer (trailer_start bytes) 16
    ∷ []

-- what comes from the byte `at` on: before each of these parts a note, if there are bytes before it
abbrev pub pieces_from : List ℕ → ℕ → List Span → List Piece
pieces_from bytes at [] = []
pieces_from bytes at (s ∷ rest) = note_at bytes at s.place ++ piece s.kind s.place (cut bytes s.place s.size) ∷ pieces_from bytes (s.place + s.size) rest

-- those of them that are left at a stage
abbrev pub left : List ℕ → Layout → Stage → List Span
left bytes l AtRoles = spans bytes l
left bytes l AtPairs = drop 1 (spans bytes l)
left bytes l AtConcepts = drop 2 (spans bytes l)
left bytes l AtRules = drop 3 (spans bytes l)
left bytes l AtTrailer = drop 4 (spans bytes l)
left bytes l AtEnd = []

-- where the first of them starts, and how many bytes it has; 0 and 0 where none is left
abbrev pub first_span : List Span → ℕ × ℕ
first_span [] = (0, 0)
first_span (s ∷ rest) = (s.place, s.size)

-- the parts of a book that is read; none of one that is refused
abbrev pub parts_if : Answer Sections → List ℕ → List Piece
parts_if (granted s) bytes = pieces_from bytes 0 (spans bytes (layout_of bytes))
parts_if (denied r) bytes = []

unfoldable pub parts_of : List ℕ → List Piece
parts_of bytes = parts_if (reading bytes) bytes

-- the pieces lie end to end from a place on, and together are these bytes
abbrev pub EndToEnd : ℕ → List Piece → List ℕ → Type 0
EndToEnd at [] bytes = bytes ≡ []
EndToEnd at (p ∷ ps) bytes = (rest : List ℕ) × (p.place ≡ at) × (bytes ≡ p.bytes ++ rest) × EndToEnd (at + length p.bytes) ps rest

-- where the book is read, these parts laid end to end are the book
abbrev pub Tiles : List ℕ → List Piece → Type 0
Tiles bytes parts = (s : Sections) → reading bytes ≡ granted s → EndToEnd 0 parts bytes
