use Rattle.tableau.proofs.Deciding.{search_decides}
use Rattle.tableau.proofs.search_decides.Goals as goal

pub returns : goal.returns
returns c = search_decides
