use Rattle.std.proofs.Common.{length}
use Rattle.plan.proofs.Forcing.{Kept}
use Rattle.plan.proofs.forced.Forced.of.Given as goal

abbrev pub invariant-entries : goal.invariant-entries
invariant-entries l = Kept (length l.entries.items.now) l.entries.items.now l.forced
