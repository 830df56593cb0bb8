-- What a label holds of another, what it has to hold by its entries, and labels of a list.
use Rattle.std.specs.Prelude.{◌≡◌, ℕ, ◌+◌, ◌<◌, Bool, true, false, not, ◌⊎◌, List, [], ◌∷◌}
use Rattle.meaning.specs.declared.Concept.TheVariants.{Nothing, Everything, Name, Not, And, Or, Restriction}
use Rattle.tableau.specs.declared.Label.{Label}
use Rattle.tableau.specs.declared.Entry.{Entry}
use Rattle.tableau.specs.declared.Entry.TheVariants.{Plain, Inclusion, Inclusions}
use Rattle.tableau.specs.Labels.{in_label}

-- the label holds what the seed holds
abbrev pub Holds : Label → Label → Type 0
Holds l seed = (s : Bool) (i : ℕ) → in_label seed s i ≡ true → in_label l s i ≡ true

-- what a label that holds the signed entry has to hold besides
abbrev pub Saturates : Entry → Bool → Label → Type 0
Saturates (Plain Nothing) s l = Unit {0}
Saturates (Plain Everything) s l = Unit {0}
Saturates (Plain (Name n)) s l = Unit {0}
Saturates (Plain (Not a)) s l = in_label l (not s) a ≡ true
Saturates (Plain (And a b)) true l = (in_label l true a ≡ true) × (in_label l true b ≡ true)
Saturates (Plain (And a b)) false l = (in_label l false a ≡ true) ⊎ (in_label l false b ≡ true)
Saturates (Plain (Or a b)) true l = (in_label l true a ≡ true) ⊎ (in_label l true b ≡ true)
Saturates (Plain (Or a b)) false l = (in_label l false a ≡ true) × (in_label l false b ≡ true)
Saturates (Plain (Restriction q r a)) s l = Unit {0}
Saturates (Inclusion c d) true l = (in_label l false c ≡ true) ⊎ (in_label l true d ≡ true)
Saturates (Inclusion c d) false l = Unit {0}
Saturates (Inclusions lo n) true l = (k : ℕ) → k < n → in_label l true (lo + k) ≡ true
Saturates (Inclusions lo n) false l = Unit {0}

-- the label is one of the list
abbrev pub In : Label → List Label → Type 0
In e [] = ⊥
In e (l ∷ ls) = (l ≡ e) ⊎ In e ls
