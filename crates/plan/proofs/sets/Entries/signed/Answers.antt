use Rattle.std.proofs.Common.{true, false, length, rules}
use Rattle.plan.specs.Plans.{listed_entry}
use Rattle.plan.proofs.Filling.{signs_from}
use Rattle.plan.proofs.sets.Entries.signed.Goals as goal

pub returns : goal.returns
returns g c p says =
    let es = c.args.self.now.items.now in
    signs_from p (length es) es c.collect.result c.collect-2.result
    (c.collect.ensures.members (λ i. p (listed_entry es i) true) (λ k b l e. search (rules, says)))
    (c.collect-2.ensures.members (λ i. p (listed_entry es i) false) (λ k b l e. search (rules, says)))
