use Rattle.std.proofs.Common.{◌≡◌, rules}
use Rattle.words.proofs.Filled.{filled}
use Rattle.tableau.specs.Labels.{empty}
use Rattle.plan.specs.Plans.{listed_entry}
use Rattle.plan.specs.Signs.{said_of}
use Rattle.plan.proofs.Filling.{said_all}
use Rattle.plan.proofs.sets.said_by.Goals as goal

pub returns : goal.returns
returns c =
    let es = c.args.entries.now in
    said_all es c.from_fn.result c.told-entries c.from_fn.ensures.items.long
    (filled c.from_fn.result (λ k l. l ≡ said_of (listed_entry es k)) empty (λ i y q e. search rules) 64 c.from_fn.ensures.items)
