use Rattle.std.proofs.Common.{rules}
use Rattle.found.proofs.Leading.{targets_of}
use Rattle.found.proofs.edges.Edges.row.Goals as goal

pub returns : goal.returns
returns c = λ h. let e = c.args.self.now in targets_of e.plan.now e.nodes.now e.role c.args.x c.targets.result h (search (rules, h))
