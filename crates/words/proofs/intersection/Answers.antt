use Rattle.std.proofs.Common.{refl}
use Rattle.words.proofs.Words.{has_and}
use Rattle.words.proofs.intersection.Goals as goal

pub returns : goal.returns
returns c = record { value = refl; members = has_and c.args.a c.args.b }
