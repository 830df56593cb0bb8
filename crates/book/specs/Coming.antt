-- What is still to come of a reader, and what a step of it does.
use Rattle.std.specs.Prelude.{◌≡◌, List, [], ◌∷◌, Option, MatchOption}
use Rattle.book.specs.declared.parts.Part.{Part}
use Rattle.book.specs.declared.parts.Parts.{Parts}
use Rattle.book.specs.Pieces.{Piece, seen, left, pieces_from}

abbrev pub coming_of : Parts → List Piece
coming_of x = pieces_from x.bytes.now x.at (left x.bytes.now x.layout x.stage)

-- the first of the parts to come is given, and the others are still to come; none is given where none is left
abbrev pub Yields : List Piece → Option Part → List Piece → Type 0
Yields before r after = MatchOption r ((before ≡ []) × (after ≡ [])) (λ p. before ≡ seen p ∷ after)
