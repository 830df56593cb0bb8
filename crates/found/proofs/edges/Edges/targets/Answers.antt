use Rattle.std.proofs.Common.{length}
use Rattle.search.specs.Nodes.{labels}
use Rattle.found.proofs.Leading.{led_none, led_more}
use Rattle.found.proofs.edges.Edges.targets.Goals as goal

pub loop-i-init : goal.loop-i-init
loop-i-init c =
    let e = c.args.self.now in
    led_none e.plan.now (labels e.nodes.now) c.args.label (length e.nodes.now) e.role e.few

pub loop-i-preserved : goal.loop-i-preserved
loop-i-preserved c =
    let e = c.args.self.now in
    led_more e.plan.now (labels e.nodes.now) c.args.label (length e.nodes.now) e.role e.few
    c.loop-i.i c.loop-i.set c.led.result c.union-set.result c.loop-i.invariant c.led.ensures c.union-set.ensures.value
