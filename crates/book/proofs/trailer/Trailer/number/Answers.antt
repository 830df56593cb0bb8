use Rattle.std.proofs.Common.{◌∙◌, arith}
use Rattle.book.specs.Layouts.{number16}
use Rattle.book.proofs.trailer.Trailer.number.Goals as goal

pub returns-clause-value : goal.returns-clause-value
unfolding number16
returns-clause-value c = c.from_le_bytes.ensures ∙ omega arith
