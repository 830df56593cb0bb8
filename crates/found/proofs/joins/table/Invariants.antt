use Rattle.found.proofs.Spreading.{TableTo}
use Rattle.found.proofs.joins.table.Given as goal

abbrev pub invariant-loop-role : goal.invariant-loop-role
invariant-loop-role l = TableTo l.plan l.nodes l.role l.table
