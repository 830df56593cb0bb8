use Rattle.runs.proofs.Refusing.{refusals_change_nothing}
use Rattle.runs.proofs.refusals_change_nothing.Goals as goal

pub returns : goal.returns
returns c = refusals_change_nothing
