use Rattle.runs.proofs.Rightness.{every_run_is_right}
use Rattle.runs.proofs.every_run_is_right.Goals as goal

pub returns : goal.returns
returns c = every_run_is_right
