-- What the arrays of a plan say.
use Rattle.std.specs.Prelude.{ℕ, ◌+◌, Bool, true, ◌&&◌, List, nat_le, nat_lt, slice_index_or}
use Rattle.meaning.specs.Bounded.{all}
use Rattle.meaning.specs.declared.Concept.TheVariants.{Nothing, Everything, Name, Not, And, Or, Restriction}
use Rattle.tableau.specs.declared.Entry.{Entry}
use Rattle.tableau.specs.declared.Entry.TheVariants.{Plain, Inclusion, Inclusions}
use Rattle.tableau.specs.Seeds.{role_of}

-- entry i; past the end it is nothing
abbrev pub listed_entry : List Entry → ℕ → Entry
listed_entry entries i = slice_index_or entries i (Plain Nothing)

abbrev pub listed_role : List Entry → ℕ → ℕ
listed_role entries i = role_of (listed_entry entries i)

-- each part of the entry is below i
abbrev pub is_lower : ℕ → Entry → Bool
is_lower i (Plain Nothing) = true
is_lower i (Plain Everything) = true
is_lower i (Plain (Name n)) = true
is_lower i (Plain (Not a)) = nat_lt a i
is_lower i (Plain (And a b)) = nat_lt a i && nat_lt b i
is_lower i (Plain (Or a b)) = nat_lt a i && nat_lt b i
is_lower i (Plain (Restriction q r a)) = nat_lt a i
is_lower i (Inclusion c d) = nat_lt c i && nat_lt d i
is_lower i (Inclusions lo n) = nat_le (lo + n) i

unfoldable pub lowered : List Entry → Bool
lowered entries = all 64 (λ i. is_lower i (listed_entry entries i))
