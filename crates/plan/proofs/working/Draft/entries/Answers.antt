use Rattle.std.proofs.Common.{◌≡◌, rules}
use Rattle.words.proofs.Filled.{filled}
use Rattle.book.specs.Sections.{says}
use Rattle.book.specs.Views.{view}
use Rattle.meaning.specs.declared.Concept.TheVariants.{Nothing}
use Rattle.tableau.specs.declared.Entry.TheVariants.{Plain}
use Rattle.tableau.specs.Working.{entry_of}
use Rattle.plan.specs.Building.{box_of}
use Rattle.plan.proofs.Filling.{entries_all}
use Rattle.plan.proofs.working.Draft.entries.Goals as goal

pub returns : goal.returns
returns c =
    let d = c.args.self.now in
    let entry = entry_of (box_of d.base.now) (says (view d.book.now)) in
    entries_all d c.from_fn.result c.from_fn.ensures.items.long
    (filled c.from_fn.result (λ k e. e ≡ entry k) (Plain Nothing) (λ i y q e. search rules) 64 c.from_fn.ensures.items)
