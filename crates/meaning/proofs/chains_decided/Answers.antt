use Rattle.meaning.proofs.Chains.{reach_decides}
use Rattle.meaning.proofs.chains_decided.Goals as goal

pub returns : goal.returns
returns c = reach_decides
