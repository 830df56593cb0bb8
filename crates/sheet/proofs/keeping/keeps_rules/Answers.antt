use Rattle.std.proofs.Common.{ℕ, rules}
use Rattle.meaning.specs.Books.{Obeys}
use Rattle.book.specs.Sections.{says}
use Rattle.book.specs.Views.{view}
use Rattle.sheet.proofs.Every.{each_below}
use Rattle.sheet.proofs.keeping.keeps_rules.Goals as goal

pub returns : goal.returns
returns g c =
    let W = g.W.World.interpretation c.args.world.now in
    let B = says (view c.args.book.now) in
    let P = λ (k : ℕ). Obeys W B.concept (B.rule k).premise (B.rule k).conclusion in
    each_below c.rule_count.result B.rules P _ c.rule_count.ensures c.all.ensures.ran (λ x q e. search rules) (λ x q e. search rules)
