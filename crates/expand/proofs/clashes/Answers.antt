use Rattle.plan.specs.Meanings.{table_in}
use Rattle.expand.proofs.Telling.{clash_word}
use Rattle.expand.proofs.clashes.Goals as goal

pub returns : goal.returns
returns c = clash_word (table_in c.args.plan.now) c.args.label c.clashing.result c.clashing.ensures
