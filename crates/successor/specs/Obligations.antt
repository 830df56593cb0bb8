-- The seeds of a label's obligations, by the rising number of the entry that obliges.
use Rattle.std.specs.Prelude.{ℕ, zero, suc, ◌-◌, true, false, List, [], ◌∷◌, Option, None, Some}
use Rattle.meaning.specs.Orders.{RoleBox}
use Rattle.tableau.specs.declared.Label.{Label}
use Rattle.tableau.specs.declared.Demand.{Demand}
use Rattle.tableau.specs.Entries.{Table}
use Rattle.tableau.specs.Seeds.{obliged_at, seed_of}
use Rattle.plan.specs.declared.Plan.{Plan}
use Rattle.plan.specs.Meanings.{table_in, box_in}

-- the seed of the obligation, where there is one, before the others
abbrev pub seed_before : RoleBox → Table → Label → Option Demand → List Label → List Label
seed_before H B l None others = others
seed_before H B l (Some d) others = seed_of H B l d.role d.sign d.part ∷ others

-- the seeds of the obligations of the d entries from i on
unfoldable pub seeds_up : RoleBox → Table → Label → ℕ → ℕ → List Label
seeds_up H B l zero i = []
seeds_up H B l (suc d) i = seed_before H B l (obliged_at B l i) (seeds_up H B l d (suc i))

-- those of the entries from k on
unfoldable pub seeds_from : RoleBox → Table → Label → ℕ → List Label
seeds_from H B l k = seeds_up H B l (B.width - k) k

-- by the hierarchy and the table of a plan
abbrev pub seeds_in : Plan → Label → ℕ → List Label
seeds_in p l k = seeds_from (box_in p) (table_in p) l k
