use native.Mathlib.Omega.{arith}
use Rattle.plan.specs.Meanings.{table_in, box_in}
use Rattle.successor.proofs.Obliging.{seeds_few}
use Rattle.probes.proofs.count_seeds.Goals as goal

pub overflow_add-count : goal.overflow_add-count
overflow_add-count c =
    let p = c.args.plan.now in
    omega (arith, c.loop-after.invariant, seeds_few (box_in p) (table_in p) c.args.label 0, p.few)
