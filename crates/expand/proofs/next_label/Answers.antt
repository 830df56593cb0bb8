use Rattle.std.proofs.Common.{arith}
use Rattle.expand.proofs.Choosing.{weight_few}
use Rattle.expand.proofs.next_label.Goals as goal

pub overflow_add-result : goal.overflow_add-result
overflow_add-result c = omega (arith, c.in_ok-label.ensures.1, weight_few c.args.plan.now.width c.args.plan.now.few)
