-- Which records are bad, and the first of them.
use Rattle.std.specs.Prelude.{ℕ, ◌+◌, ◌*◌, ◌/◌, Bool, false, not, ◌&&◌, List, length, is_some, Some, None, Option, ◌==◌, nat_lt, slice_index}
use Rattle.meaning.specs.Bounded.{any, first}
use Rattle.book.specs.declared.kind.Kind.{Kind}
use Rattle.book.specs.declared.kind.Kind.TheVariants.{Nothing, Everything, Name, Not, And, Or, Exists, Forall, NoneOf}
use Rattle.book.specs.Kinds.{kind_of, is_name}

-- a role: 0 plain, 1 transitive
abbrev pub bad_role : List ℕ → ℕ → Bool
bad_role roles k = not (nat_lt (slice_index roles k) 2)

-- both bytes of record k, of two bytes, are below n
abbrev pub both_within : ℕ → List ℕ → ℕ → Bool
both_within n records k = nat_lt (slice_index records (2 * k)) n && nat_lt (slice_index records (2 * k + 1)) n

-- a record of two bytes that are not both below n: a pair speaks of two roles of the book, a rule of two entries
abbrev pub unfit : ℕ → List ℕ → ℕ → Bool
unfit n records k = not (both_within n records k)

-- an entry before i has the name b
unfoldable pub named : List ℕ → ℕ → ℕ → Bool
named concepts i b = any i (λ j. is_name (kind_of (slice_index concepts (4 * j))) && slice_index concepts (4 * j + 1) == b)

-- the operands that an entry of a kind may have as entry i of a book with n roles; a name is one that no entry before i has
abbrev pub fitting : ℕ → List ℕ → ℕ → Option Kind → ℕ → ℕ → Bool
fitting n concepts i (Some Nothing) b c = b == 0 && c == 0
fitting n concepts i (Some Everything) b c = b == 0 && c == 0
fitting n concepts i (Some Name) b c = nat_lt b 64 && (c == 0 && not (named concepts i b))
fitting n concepts i (Some Not) b c = nat_lt b i && c == 0
fitting n concepts i (Some And) b c = nat_lt b i && nat_lt c i
fitting n concepts i (Some Or) b c = nat_lt b i && nat_lt c i
fitting n concepts i (Some Exists) b c = nat_lt b n && nat_lt c i
fitting n concepts i (Some Forall) b c = nat_lt b n && nat_lt c i
fitting n concepts i (Some NoneOf) b c = nat_lt b n && nat_lt c i
fitting n concepts i None b c = false

abbrev pub fitting_at : ℕ → List ℕ → ℕ → Bool
fitting_at n concepts i =
    fitting n concepts i (kind_of (slice_index concepts (4 * i))) (slice_index concepts (4 * i + 1)) (slice_index concepts (4 * i + 2))

-- a concept entry: kind, two operands, and a last byte that is 0
abbrev pub bad_concept : ℕ → List ℕ → ℕ → Bool
bad_concept n concepts i = not (fitting_at n concepts i && slice_index concepts (4 * i + 3) == 0)

abbrev pub lowest_bad_role : List ℕ → Option ℕ
lowest_bad_role roles = first (length roles) (bad_role roles)

abbrev pub lowest_unfit : ℕ → List ℕ → Option ℕ
lowest_unfit n records = first (length records / 2) (unfit n records)

abbrev pub lowest_bad_concept : ℕ → List ℕ → Option ℕ
lowest_bad_concept n concepts = first (length concepts / 4) (bad_concept n concepts)

-- no record is bad
unfoldable pub faultless : List ℕ → List ℕ → List ℕ → List ℕ → Bool
faultless roles pairs concepts rules =
    not (is_some (lowest_bad_role roles))
    && (not (is_some (lowest_unfit (length roles) pairs))
    && (not (is_some (lowest_bad_concept (length roles) concepts)) && not (is_some (lowest_unfit (length concepts / 4) rules))))
