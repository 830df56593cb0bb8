use mathlib.Core.Path.{◌≡◌}
use Prim.Native.Nat.{◌+◌, ◌-◌, ◌≤◌}
use lib.ListN.{length}
use Rattle.tableau.specs.Expansions.{expansions}
use Rattle.plan.specs.Meanings.{table_in}
use Rattle.expand.specs.Choices.{from}
use Rattle.probes.proofs.count_labels.Given as goal

abbrev pub invariant-loop-count : goal.invariant-loop-count
invariant-loop-count l = (l.count + length (from (table_in l.plan) l.plan.width l.seed l.c) ≡ length (expansions (table_in l.plan) l.seed)) × (l.count ≤ l.limit)

abbrev pub decreases-loop-count : goal.decreases-loop-count
decreases-loop-count l = l.limit - l.count
