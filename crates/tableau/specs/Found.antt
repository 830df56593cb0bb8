-- The world that a list of labels describes: its individuals are the places of the list.
use Rattle.std.specs.Prelude.{ℕ, Bool, true, false, ◌&&◌, ◌||◌, List, length, ◌==◌, nat_lt, slice_index_or, Option, None, Some}
use Rattle.meaning.specs.Bounded.{any}
use Rattle.meaning.specs.Worlds.{Interpretation}
use Rattle.meaning.specs.Orders.{RoleBox}
use Rattle.meaning.specs.Chains.{reach}
use Rattle.meaning.specs.declared.Concept.TheVariants.{Nothing, Everything, Name, Not, And, Or, Restriction}
use Rattle.tableau.specs.declared.Label.{Label}
use Rattle.tableau.specs.declared.Entry.{Entry}
use Rattle.tableau.specs.declared.Entry.TheVariants.{Plain, Inclusion, Inclusions}
use Rattle.tableau.specs.declared.Demand.{Demand}
use Rattle.tableau.specs.Labels.{empty, in_label, lowest}
use Rattle.tableau.specs.Entries.{Table}
use Rattle.tableau.specs.Seeds.{obliged_at, seed_of}

-- the entry is the name n
abbrev pub is_name : ℕ → Entry → Bool
is_name n (Plain Nothing) = false
is_name n (Plain Everything) = false
is_name n (Plain (Name m)) = m == n
is_name n (Plain (Not a)) = false
is_name n (Plain (And a b)) = false
is_name n (Plain (Or a b)) = false
is_name n (Plain (Restriction q r a)) = false
is_name n (Inclusion c d) = false
is_name n (Inclusions lo k) = false

module _ (H : RoleBox) (B : Table) (ls : List Label) where
  abbrev pub label_of : ℕ → Label
  label_of x = slice_index_or ls x empty

  -- the obligation of a node labelled l leads to y, the lowest node whose label contains the seed, by a role below t
  unfoldable pub leads : Label → Option Demand → ℕ → ℕ → Bool
  leads l None t y = false
  leads l (Some d) t y = H.below d.role t && lowest ls (seed_of H B l d.role d.sign d.part) == y

  -- an edge whose role is below t
  unfoldable pub edge : ℕ → ℕ → ℕ → Bool
  edge t x y = any B.width (λ i. leads (label_of x) (obliged_at B (label_of x) i) t y)

  -- or a chain of edges all below one transitive role that is below t
  unfoldable pub joined : ℕ → ℕ → ℕ → Bool
  joined t x y = edge t x y || any H.count (λ p. H.transitive p && H.below p t && reach (length ls) (edge p) x y)

  -- a name that the label has with +
  unfoldable pub borne : ℕ → ℕ → Bool
  borne x n = any B.width (λ i. in_label (label_of x) true i && is_name n (B.entry i))

  abbrev pub found : Interpretation
  found = record { size = length ls; bears = borne; joins = joined }

-- the same world with the roles below n alone; another role joins nothing
abbrev pub only_roles : ℕ → Interpretation → Interpretation
only_roles n W = record { size = W.size; bears = W.bears; joins = λ r x y. nat_lt r n && W.joins r x y }
