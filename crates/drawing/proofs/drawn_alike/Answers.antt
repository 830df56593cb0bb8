use Rattle.drawing.proofs.Sheets.{drawn_same}
use Rattle.drawing.proofs.drawn_alike.Goals as goal

pub returns : goal.returns
returns c = drawn_same
