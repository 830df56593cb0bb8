use Rattle.runs.proofs.Rightness.{runs_by_calls}
use Rattle.runs.proofs.runs_by_calls.Goals as goal

pub returns : goal.returns
returns c = runs_by_calls
