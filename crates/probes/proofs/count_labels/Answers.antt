use native.Mathlib.Omega.{arith}
use lib.ListN.{length}
use mathlib.Core.Path.{ap}
use Rattle.plan.specs.Meanings.{table_in}
use Rattle.expand.proofs.Choosing.{from_start}
use Rattle.probes.proofs.count_labels.Goals as goal

pub loop-count-init : goal.loop-count-init
loop-count-init c = (omega (arith, ap length (from_start (table_in c.args.plan.now) c.args.seed)), omega arith)
