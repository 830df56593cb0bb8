-- The kinds of a concept entry, by the bytes that write them.
use Rattle.std.specs.Prelude.{ℕ, Bool, true, false, List, [], ◌∷◌, Some, Option, slice_get}
use Rattle.book.specs.declared.kind.Kind.{Kind}
use Rattle.book.specs.declared.kind.Kind.TheVariants.{Nothing, Everything, Name, Not, And, Or, Exists, Forall, NoneOf}

-- the kinds in the order of their bytes, from 0 on
abbrev pub kinds : List Kind
kinds = Nothing ∷ Everything ∷ Name ∷ Not ∷ And ∷ Or ∷ Exists ∷ Forall ∷ NoneOf ∷ []

-- the kind that a byte is of, if there is one
unfoldable pub kind_of : ℕ → Option Kind
kind_of byte = slice_get kinds byte

abbrev pub is_name : Option Kind → Bool
is_name (Some Name) = true
is_name kind = false
