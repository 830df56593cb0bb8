use Rattle.std.proofs.Common.{rules}
use Rattle.words.specs.Sets.{has}
use Rattle.plan.specs.Plans.{listed_role}
use Rattle.plan.proofs.sets.Entries.above_row.Goals as goal

pub returns : goal.returns
returns c = c.collect.ensures.members (λ j. has c.args.row (listed_role c.args.self.now.items.now j)) (λ k b l e. search rules)
