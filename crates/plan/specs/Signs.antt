-- What an entry does by the sign that a label holds it with, and the sets of signed entries that do so.
use Rattle.std.specs.Prelude.{◌≡◌, ℕ, ◌<◌, Bool, true, false, cond, not, ◌&&◌, ◌==◌, List, nat_lt, slice_index}
use Rattle.words.specs.Sets.{has}
use Rattle.meaning.specs.declared.Concept.TheVariants.{Nothing, Everything, Name, Not, And, Or, Restriction}
use Rattle.meaning.specs.declared.Quantifier.{Quantifier}
use Rattle.meaning.specs.declared.Quantifier.TheVariants.{Exists, Forall, NoneOf}
use Rattle.tableau.specs.declared.Label.{Label}
use Rattle.tableau.specs.declared.Entry.{Entry}
use Rattle.tableau.specs.declared.Entry.TheVariants.{Plain, Inclusion, Inclusions}
use Rattle.tableau.specs.Labels.{empty, in_label, put}
use Rattle.tableau.specs.Seeds.{obliges, sign_of}
use Rattle.plan.specs.Plans.{listed_entry, listed_role}

-- a label that holds it may have to hold more
abbrev pub grows : Entry → Bool → Bool
grows (Plain Nothing) s = false
grows (Plain Everything) s = false
grows (Plain (Name n)) s = false
grows (Plain (Not a)) s = true
grows (Plain (And a b)) s = true
grows (Plain (Or a b)) s = true
grows (Plain (Restriction q r a)) s = false
grows (Inclusion c d) s = s
grows (Inclusions lo n) s = s

-- it obliges to a successor
abbrev pub obliging_entry : Entry → Bool → Bool
obliging_entry (Plain Nothing) s = false
obliging_entry (Plain Everything) s = false
obliging_entry (Plain (Name n)) s = false
obliging_entry (Plain (Not a)) s = false
obliging_entry (Plain (And a b)) s = false
obliging_entry (Plain (Or a b)) s = false
obliging_entry (Plain (Restriction q r a)) s = obliges q s
obliging_entry (Inclusion c d) s = false
obliging_entry (Inclusions lo n) s = false

-- it restricts all successors
abbrev pub restricting_entry : Entry → Bool → Bool
restricting_entry (Plain Nothing) s = false
restricting_entry (Plain Everything) s = false
restricting_entry (Plain (Name n)) s = false
restricting_entry (Plain (Not a)) s = false
restricting_entry (Plain (And a b)) s = false
restricting_entry (Plain (Or a b)) s = false
restricting_entry (Plain (Restriction q r a)) s = not (obliges q s)
restricting_entry (Inclusion c d) s = false
restricting_entry (Inclusions lo n) s = false

-- l has just those of the first n entries, with the signs, of which p holds
abbrev pub Signs : (Entry → Bool → Bool) → ℕ → List Entry → Label → Type 0
Signs p n entries l = (s : Bool) (i : ℕ) → in_label l s i ≡ (nat_lt i n && p (listed_entry entries i) s)

-- the sign with which an entry restricts all successors
abbrev pub restricting_sign : Quantifier → Bool
restricting_sign Exists = false
restricting_sign Forall = true
restricting_sign NoneOf = true

-- what it says then of its part
abbrev pub said_of : Entry → Label
said_of (Plain Nothing) = empty
said_of (Plain Everything) = empty
said_of (Plain (Name n)) = empty
said_of (Plain (Not a)) = empty
said_of (Plain (And a b)) = empty
said_of (Plain (Or a b)) = empty
said_of (Plain (Restriction q r a)) = put (sign_of q (restricting_sign q)) a empty
said_of (Inclusion c d) = empty
said_of (Inclusions lo n) = empty

-- row i is the set of what is told on of the restriction i: itself, where its role is transitive, else those propagated of it
abbrev pub PassesOn : ℕ → List ℕ → List Entry → List ℕ → Type 0
PassesOn marks propagated entries rows =
    (i j : ℕ) → i < 64 → has (slice_index rows i) j ≡ cond (has marks (listed_role entries i)) (j == i) (has (slice_index propagated i) j)
