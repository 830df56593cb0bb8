use Rattle.std.proofs.Common.{◌≤◌}
use Rattle.plan.specs.Meanings.{table_in}
use Rattle.expand.specs.Runs.{Foreseen}
use Rattle.expand.proofs.Growth.of.Given as goal

abbrev pub invariant-loop-i : goal.invariant-loop-i
invariant-loop-i l = Foreseen (table_in l.plan) l.plan.width l.seed l.ahead × (l.left ≤ l.plan.width)

abbrev pub decreases-loop-i : goal.decreases-loop-i
decreases-loop-i l = l.left
