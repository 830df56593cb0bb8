use Rattle.std.proofs.Common.{rules}
use Rattle.std.proofs.lemmas.Iterator.{first_from_Range}
use Rattle.meaning.proofs.Firsts.{first_found}
use Rattle.book.specs.Layouts.{bad_place}
use Rattle.book.proofs.trailer.Trailer.first_bad_place.Goals as goal

pub returns-clause-value : goal.returns-clause-value
returns-clause-value c =
    first_found 4 (bad_place c.args.self.now.bytes.now) _ (first_from_Range _ _ _ _ _ _ c.find.ensures.ran (λ x q e. search rules) (λ x q e. search rules))
