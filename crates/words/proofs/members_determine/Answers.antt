use Rattle.words.proofs.Words.{same_set, comprehends}
use Rattle.words.proofs.members_determine.Goals as goal

pub returns : goal.returns
returns c = record { determined = same_set 64; comprehension = comprehends }
