use Rattle.plan.specs.Meanings.{table_in}
use Rattle.expand.specs.Runs.{Along}
use Rattle.expand.proofs.descend.Given as goal

abbrev pub invariant-loop-i : goal.invariant-loop-i
invariant-loop-i l = Along (table_in l.plan) l.k l.growth.label l.left l.at

abbrev pub decreases-loop-i : goal.decreases-loop-i
decreases-loop-i l = l.left
