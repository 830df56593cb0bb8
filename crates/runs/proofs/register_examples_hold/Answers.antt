use Rattle.runs.proofs.Examples.{register_examples}
use Rattle.runs.proofs.register_examples_hold.Goals as goal

pub returns : goal.returns
returns c = register_examples
