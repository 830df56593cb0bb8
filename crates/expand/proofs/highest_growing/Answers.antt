use Rattle.std.proofs.Common.{ap, ◌∙◌, arith}
use Rattle.words.specs.Sets.{has}
use Rattle.words.proofs.Words.{has_none}
use Rattle.expand.proofs.Running.{held_below, held_in, unheld}
use Rattle.expand.proofs.highest_growing.Goals as goal

pub returns-then-held-eq0 : goal.returns-then-held-eq0
returns-then-held-eq0 c = λ j from lt.
    unheld c.args.plan.now c.args.label c.common.result c.entries.result c.below.result c.intersection-held.result c.args.k c.requires
    c.common.ensures c.entries.ensures c.below.ensures.members c.intersection-held.ensures.members
    j lt (ap (λ n. has n j) c.if-held-eq0.true ∙ has_none j)

pub returns : goal.returns
returns c =
    let p = c.args.plan.now in
    let l = c.args.label in
    let m = c.common.result in
    let u = c.entries.result in
    let b = c.below.result in
    let held = c.intersection-held.result in
    let hm = c.common.ensures in
    let hu = c.entries.ensures in
    let hb = c.below.ensures.members in
    let hh = c.intersection-held.ensures.members in
    let i = c.highest.result in (
      held_below p l m u b held c.args.k c.requires hm hu hb hh i c.highest.ensures.last,
      (λ j from lt. unheld p l m u b held c.args.k c.requires hm hu hb hh j lt (c.highest.ensures.most j (omega arith))),
      held_in p l m u b held c.args.k c.requires hm hu hb hh i c.highest.ensures.last,
    )
