use Rattle.std.proofs.Common.{rules}
use Rattle.plan.proofs.sets.Entries.above.Goals as goal

pub returns : goal.returns
returns c r j l = let e = c.tabulate.ensures r l in search rules
