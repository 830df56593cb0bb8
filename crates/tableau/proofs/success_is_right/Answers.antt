use Rattle.tableau.proofs.Succeeding.{success_is_right}
use Rattle.tableau.proofs.success_is_right.Goals as goal

pub returns : goal.returns
returns c = success_is_right
