use Rattle.tableau.proofs.Deciding.{edges_are_those_chosen}
use Rattle.tableau.proofs.edges_are_those_chosen.Goals as goal

pub returns : goal.returns
returns c = edges_are_those_chosen
