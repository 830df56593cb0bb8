use Rattle.script.proofs.Histories.{sessions_run}
use Rattle.script.proofs.sessions_run.Goals as goal

pub returns : goal.returns
returns c = sessions_run
