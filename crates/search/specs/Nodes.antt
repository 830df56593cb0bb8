-- The nodes of a search, and what it leaves of them.
use Rattle.std.specs.Prelude.{◌≡◌, ℕ, ◌+◌, ◌<◌, ◌≤◌, true, false, List, map, length, get_or, take, Some, None, Option, Ok, Err, Result, slice_index_or}
use Rattle.tableau.specs.declared.Label.{Label}
use Rattle.tableau.specs.Labels.{any_contains, lowest}
use Rattle.tableau.specs.Search.{Outcome, failed, full, stands}
use Rattle.search.specs.declared.Node.{Node}
use Rattle.search.specs.declared.Waiting.{Waiting}
use Rattle.search.specs.declared.NoRoom.{NoRoom}

abbrev pub blank : Node
blank = record { seed = record { plus = 0; minus = 0 }; label = record { plus = 0; minus = 0 }; waiting = None }

abbrev pub label_of : Node → Label
label_of x = x.label

abbrev pub labels : List Node → List Label
labels xs = map label_of xs

-- the place of the first label that contains the seed
abbrev pub LowestIn : List Label → Label → Option ℕ → Type 0
LowestIn ls seed None = any_contains ls seed ≡ false
LowestIn ls seed (Some k) = (any_contains ls seed ≡ true) × (k ≡ lowest ls seed) × (k < length ls)

-- the nodes from p on, up to m, are done
abbrev pub DoneFrom : ℕ → ℕ → List Node → Type 0
DoneFrom p m nodes = (k : ℕ) → p ≤ k → k < m → (get_or nodes k blank).waiting ≡ None

-- the newest of the nodes that waits
abbrev pub NewestIn : List Node → Option (ℕ × Waiting) → Type 0
NewestIn nodes None = DoneFrom 0 (length nodes) nodes
NewestIn nodes (Some p) =
    (p.0 < length nodes) × ((get_or nodes p.0 blank).waiting ≡ Some p.1) × DoneFrom (p.0 + 1) (length nodes) nodes

-- the nodes from m on are blank
abbrev pub BlankFrom : ℕ → List Node → Type 0
BlankFrom m nodes = (k : ℕ) → m ≤ k → k < length nodes → slice_index_or nodes k blank ≡ blank

-- the answer, with the nodes left, is what the search comes to: where it failed and where it found no room every node is
-- blank, and where it stands the first nodes have the labels that stand, none of them waits, and the others are blank
abbrev pub Says : List Node → Result (Option ℕ) NoRoom → Outcome → Type 0
Says nodes (Ok None) v = (v ≡ failed) × BlankFrom 0 nodes
Says nodes (Err e) v = (v ≡ full) × BlankFrom 0 nodes
Says nodes (Ok (Some m)) v = (v ≡ stands (labels (take m nodes))) × (m ≤ length nodes) × BlankFrom m nodes × DoneFrom 0 m nodes
