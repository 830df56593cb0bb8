use Rattle.meaning.proofs.Meanings.{entries_mean}
use Rattle.meaning.proofs.entries_mean.Goals as goal

pub returns : goal.returns
returns c = entries_mean
