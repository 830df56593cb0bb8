-- What a signed entry forces: whatever way a label grows that holds it, the label comes to hold all of that.
use Rattle.std.specs.Prelude.{◌≡◌, ℕ, suc, ◌<◌, Bool, true, false, not, List, slice_index_or}
use Rattle.meaning.specs.declared.Concept.TheVariants.{Nothing, Everything, Name, Not, And, Or, Restriction}
use Rattle.tableau.specs.declared.Label.{Label}
use Rattle.tableau.specs.declared.Entry.{Entry}
use Rattle.tableau.specs.declared.Entry.TheVariants.{Plain, Inclusion, Inclusions}
use Rattle.tableau.specs.Labels.{empty, in_label, joined}
use Rattle.tableau.specs.Saturation.{Holds, Saturates}
use Rattle.plan.specs.declared.forced.Forced.{Forced}
use Rattle.plan.specs.Plans.{listed_entry}

-- the label has what each of its entries below k asks for, of the first n entries
abbrev pub GrownBelow : ℕ → List Entry → ℕ → Label → Type 0
GrownBelow n entries k l = (i : ℕ) (s : Bool) → i < k → i < n → in_label l s i ≡ true → Saturates (listed_entry entries i) s l

-- a label that has grown by the entries up to i, and holds entry i with the sign, holds all of m
abbrev pub Forces : ℕ → List Entry → Bool → ℕ → Label → Type 0
Forces n entries s i m = (l : Label) → GrownBelow n entries (suc i) l → in_label l s i ≡ true → Holds l m

-- what is kept for the signed entry
abbrev pub forced_by : Forced → Bool → ℕ → Label
forced_by f true i = slice_index_or f.plus i empty
forced_by f false i = slice_index_or f.minus i empty

-- what is kept for the parts that the signed entry asks for, where there is no choice
abbrev pub brought : Forced → Entry → Bool → Label
brought f (Plain Nothing) s = empty
brought f (Plain Everything) s = empty
brought f (Plain (Name n)) s = empty
brought f (Plain (Not a)) s = forced_by f (not s) a
brought f (Plain (And a b)) true = joined (forced_by f true a) (forced_by f true b)
brought f (Plain (And a b)) false = empty
brought f (Plain (Or a b)) true = empty
brought f (Plain (Or a b)) false = joined (forced_by f false a) (forced_by f false b)
brought f (Plain (Restriction q r a)) s = empty
brought f (Inclusion c d) s = empty
brought f (Inclusions lo n) s = empty
