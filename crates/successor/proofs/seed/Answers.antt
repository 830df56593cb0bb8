use Rattle.std.proofs.Common.{◌+◌, refl, arith}
use Rattle.tableau.specs.Folds.{fold}
use Rattle.tableau.specs.Labels.{empty}
use Rattle.successor.proofs.Emptying.{left_all, left_next, left_after, left_none}
use Rattle.successor.proofs.Skipping.{telling_from, told_next, told_all, seed_is}
use Rattle.successor.proofs.seed.Goals as goal

pub loop-i-init : goal.loop-i-init
unfolding fold
loop-i-init c = rw c.into_iter-i-iterator.ensures.into_iter_gives (0, left_all c.intersection-asked.result, (refl, omega arith))

pub loop-i-preserved : goal.loop-i-preserved
unfolding empty
loop-i-preserved c =
    let p = c.args.plan.now in
    let l = c.args.label in
    let set = c.intersection-asked.result in
    let m = c.common-told.result in
    let telling = telling_from p l m c.args.r c.entries.result set c.common-told.ensures c.entries.ensures c.intersection-asked.ensures.members in
    let so = c.loop-i.invariant in
    let i = c.in-Some.i in
    let takes = c.in-Some.ensures.steps in (
      i + 1,
      left_after set so.0 c.loop-i.i-iterator.0 i c.next.new.self.0 so.1 takes,
      told_next p l m c.args.r c.with-acc.result set c.requires.successor telling so.0 i c.loop-i.acc c.with_all-acc.result c.member.result
          so.2 (left_next set so.0 c.loop-i.i-iterator.0 i c.next.new.self.0 so.1 takes) c.member.ensures
          (rw (c.joined.ensures, c.intersection.ensures.value) at c.with_all-acc.ensures),
    )

pub returns : goal.returns
returns c =
    let p = c.args.plan.now in
    let l = c.args.label in
    let set = c.intersection-asked.result in
    let m = c.common-told.result in
    let telling = telling_from p l m c.args.r c.entries.result set c.common-told.ensures c.entries.ensures c.intersection-asked.ensures.members in
    let so = c.loop-i.invariant in
    seed_is p l c.args.r c.args.sign c.args.a c.with-acc.result c.loop-i.acc c.with-acc.ensures
    (told_all p l m c.args.r c.with-acc.result set c.requires.successor telling so.0 c.loop-i.acc so.2 (left_none set so.0 c.loop-i.i-iterator.0 so.1 c.in-None.ensures.steps))
