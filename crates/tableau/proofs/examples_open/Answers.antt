use Rattle.tableau.proofs.Examples.{examples_open}
use Rattle.tableau.proofs.examples_open.Goals as goal

pub returns : goal.returns
returns c = examples_open
