-- What the taking of an entry makes of a label, by the signs that the label has it with.
use Rattle.std.proofs.Common.{ℕ, ◌≤◌, arith}
use Rattle.meaning.specs.declared.Concept.TheVariants.{Nothing, Everything, Name, Not, And, Or, Restriction}
use Rattle.tableau.specs.declared.Entry.{Entry}
use Rattle.tableau.specs.declared.Entry.TheVariants.{Plain, Inclusion, Inclusions}
use Rattle.tableau.specs.Entries.{LowerEntry}

pub lower_more : (i j : ℕ) → i ≤ j → (e : Entry) → LowerEntry i e → LowerEntry j e
lower_more i j h (Plain Nothing) low = tt
lower_more i j h (Plain Everything) low = tt
lower_more i j h (Plain (Name n)) low = tt
lower_more i j h (Plain (Not a)) low = omega arith
lower_more i j h (Plain (And a b)) low = (omega arith, omega arith)
lower_more i j h (Plain (Or a b)) low = (omega arith, omega arith)
lower_more i j h (Plain (Restriction q r a)) low = omega arith
lower_more i j h (Inclusion c d) low = (omega arith, omega arith)
lower_more i j h (Inclusions lo n) low = omega arith
