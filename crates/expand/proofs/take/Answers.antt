use Rattle.std.proofs.Common.{arith}
use Rattle.plan.specs.Plans.{listed_entry}
use Rattle.plan.proofs.Lowered.{plan_lower}
use Rattle.expand.proofs.Taking.{lower_more}
use Rattle.expand.proofs.take.Goals as goal

pub grow-requires : goal.grow-requires
grow-requires c =
    let p = c.args.plan.now in
    let k = c.args.k in
    rw c.entry.ensures (lower_more k 64 (omega arith) (listed_entry p.entries k) (plan_lower p k))

pub returns-in-Some-clause-lower : goal.returns-in-Some-clause-lower
returns-in-Some-clause-lower c =
    let p = c.args.plan.now in
    let k = c.args.k in
    c.grow.ensures.lower k (rw c.entry.ensures (plan_lower p k))
