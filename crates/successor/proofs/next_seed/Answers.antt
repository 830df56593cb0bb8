use Rattle.std.proofs.Common.{◌+◌, refl, None, Some, arith}
use Rattle.plan.specs.Meanings.{table_in, box_in}
use Rattle.successor.proofs.Emptying.{left_from, left_next, left_after, left_none}
use Rattle.successor.proofs.Obliging.{signed_from, signed_in, seeds_by, seeds_past, passed_idle, passed_found, passed_all}
use Rattle.successor.proofs.next_seed.Goals as goal

pub returns-then-k-plan : goal.returns-then-k-plan
returns-then-k-plan c =
    let p = c.args.plan.now in
    seeds_past (box_in p) (table_in p) c.args.label c.args.k c.if-k-plan.true

pub loop-i-init : goal.loop-i-init
loop-i-init c =
    rw c.into_iter-i-iterator.ensures.into_iter_gives
    (c.args.k, left_from c.entries-signed.result c.below.result c.difference.result c.args.k c.below.ensures.members c.difference.ensures, (refl, omega arith, omega arith))

pub returns-in-Some-seed_at : goal.returns-in-Some-seed_at
returns-in-Some-seed_at c =
    let p = c.args.plan.now in
    let l = c.args.label in
    let set = c.entries-signed.result in
    let signed = signed_from p l c.common.result set c.common.ensures c.entries-signed.ensures in
    let so = c.loop-i.invariant in
    let next = left_next set so.0 c.loop-i.i-iterator.0 c.in-Some.i c.next.new.self.0 so.1 c.in-Some.ensures.steps in
    passed_found p l set signed c.args.k so.0 c.in-Some.i c.in-Some-seed_at.found so.2 next
    (seeds_by (box_in p) (table_in p) l c.in-Some.i (Some c.in-Some-seed_at.found) (signed_in p l set signed c.in-Some.i next.member) c.in-Some-seed_at.ensures)

pub loop-i-preserved : goal.loop-i-preserved
loop-i-preserved c =
    let p = c.args.plan.now in
    let l = c.args.label in
    let set = c.entries-signed.result in
    let signed = signed_from p l c.common.result set c.common.ensures c.entries-signed.ensures in
    let so = c.loop-i.invariant in
    let i = c.in-Some.i in
    let takes = c.in-Some.ensures.steps in
    let next = left_next set so.0 c.loop-i.i-iterator.0 i c.next.new.self.0 so.1 takes in (
      i + 1,
      left_after set so.0 c.loop-i.i-iterator.0 i c.next.new.self.0 so.1 takes,
      passed_idle p l set signed c.args.k so.0 i so.2 next
          (seeds_by (box_in p) (table_in p) l i None (signed_in p l set signed i next.member) c.in_default.ensures),
    )

pub returns : goal.returns
returns c =
    let p = c.args.plan.now in
    let l = c.args.label in
    let set = c.entries-signed.result in
    let signed = signed_from p l c.common.result set c.common.ensures c.entries-signed.ensures in
    let so = c.loop-i.invariant in
    passed_all p l set signed c.args.k so.0 so.2 (left_none set so.0 c.loop-i.i-iterator.0 so.1 c.in-None.ensures.steps)
