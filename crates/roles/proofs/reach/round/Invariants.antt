use Rattle.std.proofs.Common.{◌≡◌}
use Rattle.roles.specs.Rounds.{round_to}
use Rattle.roles.proofs.reach.round.Given as goal

abbrev pub invariant-loop-lower : goal.invariant-loop-lower
invariant-loop-lower l = l.found ≡ round_to l.pairs l.lower-index l.set
