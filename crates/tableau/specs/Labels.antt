-- Labels: sets of signed entries. The sign true is +, an individual is in the entry; false is -, it is not.
use Rattle.std.specs.Prelude.{ℕ, suc, ◌^◌, Bool, true, false, cond, ◌&&◌, List, [], ◌∷◌, ◌==◌, bit_and, bit_or, Option, None, Some}
use Rattle.words.specs.Sets.{has}
use Rattle.tableau.specs.declared.Label.{Label}

unfoldable pub empty : Label
empty = record { plus = 0; minus = 0 }

-- does the label hold entry i with sign s
unfoldable pub in_label : Label → Bool → ℕ → Bool
in_label l true i = has l.plus i
in_label l false i = has l.minus i

-- the sign with which the label holds entry i, if it does: + where it holds it with both
abbrev pub sign_at : Label → ℕ → Option Bool
sign_at l i = cond (in_label l true i) (Some true) (cond (in_label l false i) (Some false) None)

-- the label with entry i, signed s, in it too
unfoldable pub put : Bool → ℕ → Label → Label
put true i l = record { plus = bit_or l.plus (2 ^ i); minus = l.minus }
put false i l = record { plus = l.plus; minus = bit_or l.minus (2 ^ i) }

-- the label with every member of the set, signed s, in it too
abbrev pub put_all : Bool → ℕ → Label → Label
put_all true set l = record { plus = bit_or l.plus set; minus = l.minus }
put_all false set l = record { plus = l.plus; minus = bit_or l.minus set }

-- the signed entries of two labels together, and those that both hold
abbrev pub joined : Label → Label → Label
joined l m = record { plus = bit_or l.plus m.plus; minus = bit_or l.minus m.minus }

abbrev pub common : Label → Label → Label
common l m = record { plus = bit_and l.plus m.plus; minus = bit_and l.minus m.minus }

-- is every signed entry of the seed in the label
unfoldable pub contains : Label → Label → Bool
contains l seed = bit_and seed.plus l.plus == seed.plus && bit_and seed.minus l.minus == seed.minus

-- does a label of the list contain the seed
unfoldable pub any_contains : List Label → Label → Bool
any_contains [] seed = false
any_contains (l ∷ ls) seed = cond (contains l seed) true (any_contains ls seed)

-- the place of the first label that contains the seed; the length where none does
unfoldable pub lowest : List Label → Label → ℕ
lowest [] seed = 0
lowest (l ∷ ls) seed = cond (contains l seed) 0 (suc (lowest ls seed))
