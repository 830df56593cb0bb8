use Rattle.successor.proofs.Obliging.{obligation_inside}
use Rattle.successor.proofs.obligation_at.Goals as goal

pub returns-clause-inside : goal.returns-clause-inside
returns-clause-inside c =
    obligation_inside c.args.plan.now c.args.i c.in_ok-sign.field-0 c.obligation.result c.requires (rw c.entry.ensures at c.obligation.ensures)
