use Rattle.std.proofs.Common.{rules}
use Rattle.plan.proofs.Filling.{rows_all}
use Rattle.plan.proofs.working.Draft.propagated.Goals as goal

pub returns : goal.returns
returns c = rows_all c.args.self.now c.tabulate.result (search rules) (λ i j l. let e = c.tabulate.ensures i l in search rules)
