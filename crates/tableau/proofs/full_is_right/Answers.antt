use Rattle.tableau.proofs.Deciding.{full_is_right}
use Rattle.tableau.proofs.full_is_right.Goals as goal

pub returns : goal.returns
returns c = full_is_right
