use Rattle.tableau.proofs.Deciding.{standing_labels_differ}
use Rattle.tableau.proofs.standing_labels_differ.Goals as goal

pub returns : goal.returns
returns c = standing_labels_differ
