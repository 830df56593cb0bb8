use Rattle.std.proofs.Common.{rules}
use Rattle.plan.proofs.sets.passed_on.Goals as goal

pub returns : goal.returns
returns c i j l = let e = c.tabulate.ensures i l in search rules
