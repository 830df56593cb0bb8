use Rattle.std.proofs.Common.{◌+◌, ◌*◌, get_or, arith}
use Rattle.search.specs.Nodes.{labels}
use Rattle.found.specs.Founds.{edge_in}
use Rattle.found.proofs.Spreading.{added_is}
use Rattle.found.proofs.edges.Edges.add.Goals as goal

pub returns : goal.returns
returns c = λ t x l h.
    let e = c.args.self.now in
    let near = c.rows-own.ensures in
    added_is e.plan.now e.nodes.now e.role t x (get_or c.args.table.now (64 * t + x) 0) (get_or c.spread.new.table (64 * t + x) 0) c.rows-own.result c.chains-far.result e.few h
    near (c.chains-far.ensures (edge_in e.plan.now (labels e.nodes.now) e.role) near) (c.spread.ensures t x l (omega (arith, h, e.few)))
