use Rattle.std.proofs.Common.{length, sym, ◌∙◌}
use Rattle.search.specs.Nodes.{labels}
use Rattle.found.proofs.Leading.{led_idle, led_other, led_there}
use Rattle.found.proofs.edges.Edges.led.Goals as goal

pub returns-in-Some : goal.returns-in-Some
returns-in-Some c =
    let e = c.args.self.now in
    led_there e.plan.now (labels e.nodes.now) c.args.label (length e.nodes.now) c.args.i e.role e.few c.in-Some.d
    (sym c.in-Some.ensures.value) c.seed.result c.holder.result (sym c.member.ensures ∙ c.if-member.true) c.seed.ensures c.holder.ensures

pub returns-in_default : goal.returns-in_default
returns-in_default c =
    let e = c.args.self.now in
    led_other e.plan.now (labels e.nodes.now) c.args.label (length e.nodes.now) c.args.i e.role e.few c.in-Some.d
    (sym c.in-Some.ensures.value) (sym c.member.ensures ∙ c.if-member.false)

pub returns-in_default-2 : goal.returns-in_default-2
returns-in_default-2 c =
    let e = c.args.self.now in
    led_idle e.plan.now (labels e.nodes.now) c.args.label (length e.nodes.now) c.args.i e.role e.few (sym c.in_default.ensures.value)
