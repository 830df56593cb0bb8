use Rattle.expand.proofs.Choosing.{from_start, from_past, from_few}
use Rattle.expand.proofs.choices_cover.Goals as goal

pub returns : goal.returns
returns c = record { start = from_start; past = from_past; few = from_few }
