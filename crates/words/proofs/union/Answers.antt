use Rattle.std.proofs.Common.{refl}
use Rattle.words.proofs.Words.{has_or}
use Rattle.words.proofs.union.Goals as goal

pub returns : goal.returns
returns c = record { value = refl; members = has_or c.args.a c.args.b }
