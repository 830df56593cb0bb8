-- The search as a value.
use Rattle.std.specs.Prelude.{ℕ, zero, suc, Bool, true, false, List, [], ◌∷◌, ◌++◌, length, nat_le, Option, None, Some}
use Rattle.meaning.specs.Orders.{RoleBox}
use Rattle.tableau.specs.declared.Label.{Label}
use Rattle.tableau.specs.declared.Demand.{Demand}
use Rattle.tableau.specs.Labels.{any_contains}
use Rattle.tableau.specs.Entries.{Table}
use Rattle.tableau.specs.Expansions.{expansions}
use Rattle.tableau.specs.Seeds.{obliged_at, seed_of}

-- the search fails, finds no room, or leaves the labels of its nodes standing
pub data Outcome : Type 0 where
  failed full : Outcome
  stands : List Label → Outcome

-- what a search comes to from the labels that stand and a seed; `sub` below is the search for a further node
abbrev pub Searcher : Type 0
Searcher = List Label → Label → Outcome

-- what comes next where the first failed
unfoldable pub or_else : Outcome → (Unit {0} → Outcome) → Outcome
or_else failed next = next tt
or_else full next = full
or_else (stands ls) next = stands ls

-- what comes next where the first stands
unfoldable pub and_then : Outcome → (List Label → Outcome) → Outcome
and_then failed next = failed
and_then full next = full
and_then (stands ls) next = next ls

-- a standing label that contains the seed is reused; else a new node is searched for
unfoldable pub reuse : Bool → Searcher → List Label → Label → Outcome
reuse true sub st seed = stands st
reuse false sub st seed = sub st seed

module _ (H : RoleBox) (B : Table) where
  -- an obligation, if there is one, is met by a label that stands or by a further node
  unfoldable pub pursue : Searcher → Label → Option Demand → List Label → Outcome
  pursue sub l None st = stands st
  pursue sub l (Some d) st = reuse (any_contains st (seed_of H B l d.role d.sign d.part)) sub st (seed_of H B l d.role d.sign d.part)

  -- the obligations of d entries from i on, by rising number
  unfoldable pub meet_from : Searcher → Label → ℕ → ℕ → List Label → Outcome
  meet_from sub l zero i st = stands st
  meet_from sub l (suc d) i st = and_then (pursue sub l (obliged_at B l i) st) (meet_from sub l d (suc i))

  -- the expansions in order, each from the labels that stood before: what a failed one made is gone
  unfoldable pub try_each : Searcher → List Label → List Label → Outcome
  try_each sub st [] = failed
  try_each sub st (e ∷ es) = or_else (meet_from sub e B.width 0 (st ++ e ∷ [])) (λ u. try_each sub st es)

  -- a node needs room; true: there is none
  unfoldable pub enter : Bool → Searcher → List Label → Label → Outcome
  enter true sub st seed = full
  enter false sub st seed = try_each sub st (expansions B seed)

  -- The search from a seed in n nodes, where the labels st stand, down to a depth. From a depth of n over no label the depth
  -- ends only where the room does, since each level has one label more standing: `FullIsRight` says so.
  unfoldable pub explore : ℕ → ℕ → Searcher
  explore n zero st seed = full
  explore n (suc k) st seed = enter (nat_le n (length st)) (explore n k) st seed
