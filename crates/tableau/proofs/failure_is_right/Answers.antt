use Rattle.tableau.proofs.Deciding.{failure_is_right}
use Rattle.tableau.proofs.failure_is_right.Goals as goal

pub returns : goal.returns
returns c = failure_is_right
