use Rattle.std.proofs.Common.{arith, rules}
use Rattle.found.proofs.edges.Edges.rows.Goals as goal

pub returns : goal.returns
returns c = λ x h. let each = c.tabulate.ensures x (omega (arith, h, c.args.self.now.few)) in search (rules, each, h)
