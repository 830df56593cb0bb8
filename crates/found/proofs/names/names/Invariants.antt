use Rattle.found.proofs.Naming.{NamedTo}
use Rattle.found.proofs.names.names.Given as goal

abbrev pub invariant-loop-i : goal.invariant-loop-i
invariant-loop-i l = NamedTo l.plan l.i l.sets
