-- The found world of a plan, and what the code keeps of it.
use Rattle.std.specs.Prelude.{ℕ, ◌+◌, ◌*◌, Bool, cond, not, ◌&&◌, ◌||◌, List, length, ◌==◌, bit_and, nat_le, nat_lt, slice_index, slice_index_or}
use Rattle.std.proofs.Common.{arith}
use Rattle.words.specs.Sets.{has}
use Rattle.denial.specs.Denials.{Answer, granted, denied, reported}
use Rattle.denial.specs.declared.Layer.TheVariants.{Register}
use Rattle.meaning.specs.Bounded.{any}
use Rattle.meaning.specs.Worlds.{Interpretation, Sized}
use Rattle.tableau.specs.declared.Label.{Label}
use Rattle.tableau.specs.Labels.{lowest}
use Rattle.tableau.specs.Seeds.{obliged_at}
use Rattle.tableau.specs.Found.{is_name, leads, edge, found, only_roles}
use Rattle.plan.specs.declared.Plan.{Plan}
use Rattle.plan.specs.Meanings.{table_in, box_in, plan_roles}
use Rattle.plan.specs.Plans.{listed_entry}
use Rattle.search.specs.declared.Node.{Node}
use Rattle.sheet.specs.Sheets.{held}
use Rattle.search.specs.Nodes.{blank, labels}
use Rattle.found.specs.Rows.{chains_of}

-- the found world of the labels, with the roles of the book
abbrev pub found_in : Plan → List Label → Interpretation
found_in p ls = only_roles (plan_roles p) (found (box_in p) (table_in p) ls)

-- a world has 1 to 64 individuals; any other number of nodes is refused with 17 and that number
abbrev pub finding : List Node → Answer (List Node)
finding nodes = cond (nat_le 1 (length nodes) && nat_le (length nodes) 64) (granted nodes) (denied (reported 17 (length nodes) Register))

-- y is the lowest node whose label contains the seed
abbrev pub is_lowest : List Label → Label → ℕ → Bool
is_lowest ls seed y = lowest ls seed == y

-- entry i of a node so labelled leads to y, by a role below t
abbrev pub leads_in : Plan → List Label → Label → ℕ → ℕ → ℕ → Bool
leads_in p ls l i t y = leads (box_in p) (table_in p) ls l (obliged_at (table_in p) l i) t y

-- so does some entry of a node so labelled
abbrev pub targets_in : Plan → List Label → Label → ℕ → ℕ → Bool
targets_in p ls l t y = any p.width (λ i. leads_in p ls l i t y)

abbrev pub edge_in : Plan → List Label → ℕ → ℕ → ℕ → Bool
edge_in p ls t x y = edge (box_in p) (table_in p) ls t x y

-- entry i is the name n
abbrev pub is_name_in : Plan → ℕ → ℕ → Bool
is_name_in p n i = is_name n (listed_entry p.entries i)

-- what the edges of the role q add to what a role t joins: they themselves, if t is q, and their chains, if q is transitive
-- and below t
abbrev pub added_in : Plan → List Node → ℕ → ℕ → ℕ → ℕ → Bool
added_in p nodes q t x y =
    (t == q) && edge_in p (labels nodes) q x y || (box_in p).below q t && chains_of ((box_in p).transitive q) (length nodes) (edge_in p (labels nodes) q) x y

-- what the edges of the roles below n give to the role t
abbrev pub joined_to : Plan → List Node → ℕ → ℕ → ℕ → ℕ → Bool
joined_to p nodes n t x y = any n (λ q. added_in p nodes q t x y)

-- The world that the code keeps: the individuals are the nodes. One bears the name n where its label has with + an entry of
-- the n-th set of names, and is joined by a role to the members of its row.
abbrev pub kept_world : List Node → ℕ → List ℕ → List ℕ → Interpretation
kept_world nodes roles names rows = record {
  size = held (length nodes);
  bears = λ x n. not (bit_and (slice_index_or nodes x blank).label.plus (slice_index names n) == 0);
  joins = λ r x y. nat_lt r roles && has (slice_index rows (64 * r + x)) y;
}

pub kept_sized : (nodes : List Node) (roles : ℕ) (names rows : List ℕ) → Sized (kept_world nodes roles names rows)
kept_sized nodes roles names rows = record { some = omega arith; few = omega arith }
