use Rattle.std.proofs.Common.{length}
use Rattle.search.specs.Loop.{Go, measure}
use Rattle.search.proofs.Steps.{Along}
use Rattle.search.proofs.lacking.Given as goal

abbrev pub invariant-loop-p : goal.invariant-loop-p
invariant-loop-p g l = Along (g.S.Strategy.game l.strategy) l.initial.nodes l.m l.nodes

abbrev pub decreases-loop-p : goal.decreases-loop-p
decreases-loop-p g l = measure (g.S.Strategy.game l.strategy) (length l.nodes) l.nodes l.m Go
