use Rattle.tableau.proofs.Deciding.{room_suffices}
use Rattle.tableau.proofs.room_suffices.Goals as goal

pub returns : goal.returns
returns c = room_suffices
