use Rattle.std.proofs.Common.{true, false, ◌&&◌, ◌||◌, ltb, ap, ◌∙◌, ap₂}
use Rattle.words.specs.Sets.{has}
use Rattle.tableau.specs.Labels.{in_label}
use Rattle.tableau.specs.declared.Label.{Label}
use Rattle.tableau.specs.Expansions.{absurd_entry}
use Rattle.words.proofs.Words.{has_and}
use Rattle.plan.specs.Plans.{listed_entry}
use Rattle.expand.proofs.Telling.{clash_bits}
use Rattle.expand.proofs.clashing.Goals as goal

pub returns : goal.returns
unfolding in_label
returns c = λ i.
    let p = c.args.plan.now in
    let l = c.args.label in
    let m = c.common.ensures in
    let plus = ap (λ (m : Label). has m.plus i) m ∙ has_and l.plus p.absurd.plus i ∙ ap (λ x. has l.plus i && x) (p.absurd_are true i) in
    let minus = ap (λ (m : Label). has m.minus i) m ∙ has_and l.minus p.absurd.minus i ∙ ap (λ x. has l.minus i && x) (p.absurd_are false i) in
    c.union.ensures.members i
    ∙ ap₂ (λ x y. x || y)
    (c.intersection-both.ensures.members i ∙ ap₂ (λ x y. x && y) (c.intersection.ensures.members i) (c.below.ensures.members i))
    (c.entries.ensures i ∙ ap₂ (λ x y. x || y) plus minus)
    ∙ clash_bits (ltb i p.width) (has l.plus i) (has l.minus i) (absurd_entry (listed_entry p.entries i) true) (absurd_entry (listed_entry p.entries i) false)
