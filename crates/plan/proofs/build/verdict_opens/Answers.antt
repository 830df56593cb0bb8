use Rattle.plan.proofs.Building.{verdict_opens}
use Rattle.plan.proofs.build.verdict_opens.Goals as goal

pub returns : goal.returns
returns c = verdict_opens
