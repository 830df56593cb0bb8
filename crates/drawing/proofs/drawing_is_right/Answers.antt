use Rattle.drawing.proofs.Sheets.{drawing_right}
use Rattle.drawing.proofs.drawing_is_right.Goals as goal

pub returns : goal.returns
returns c = drawing_right
