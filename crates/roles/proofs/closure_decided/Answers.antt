use Rattle.roles.proofs.Closures.{closure_decides}
use Rattle.roles.proofs.closure_decided.Goals as goal

pub returns : goal.returns
returns c = closure_decides
