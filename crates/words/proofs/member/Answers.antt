use Rattle.words.proofs.Words.{has_test}
use Rattle.words.proofs.member.Goals as goal

pub returns : goal.returns
returns c = has_test c.args.w c.args.k
