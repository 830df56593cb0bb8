use Rattle.std.proofs.Common.{◌≡◌, Some, None, vec_items, subst, arith}
use Rattle.std.specs.Str.Iter.{split_whitespace_rest}
use Rattle.std.proofs.lemmas.Grind.{common_steps}
use Rattle.script.specs.Hexes.{NamesAs, WordsIn, no_item, bad_item, one_item}
use Rattle.script.proofs.Naming.{past_count, named_past}
use Rattle.script.proofs.hex.words_of.Goals as goal

pub returns-in_err-place : goal.returns-in_err-place
returns-in_err-place c =
    let inv = c.loop-item.invariant in
    let no : c.item_of.result ≡ None = grind arith in
    let names = subst (NamesAs c.in-Some.item.now) no c.item_of.ensures in
    let r : WordsIn c.args.count c.args.named.now None =
    inv.2 None (bad_item (vec_items c.loop-item.words) (split_whitespace_rest c.loop-item.item-iterator) c.in-Some.item.now (split_whitespace_rest c.next.new.self) c.in-Some.ensures.steps (λ place word l. names place word)) in
    grind (arith, common_steps)

pub returns-then-place-count : goal.returns-then-place-count
returns-then-place-count c =
    let inv = c.loop-item.invariant in
    let yes : c.item_of.result ≡ Some (c.in_ok-place.place, c.in_ok-place.word) = grind arith in
    let names = subst (NamesAs c.in-Some.item.now) yes c.item_of.ensures in
    inv.2 None (bad_item (vec_items c.loop-item.words) (split_whitespace_rest c.loop-item.item-iterator) c.in-Some.item.now (split_whitespace_rest c.next.new.self) c.in-Some.ensures.steps
    (past_count c.in-Some.item.now c.args.count c.in_ok-place.place c.in_ok-place.word names c.if-place-count.true))

pub loop-item-preserved-in-Some-get_mut : goal.loop-item-preserved-in-Some-get_mut
loop-item-preserved-in-Some-get_mut c =
    let inv = c.loop-item.invariant in
    let yes : c.item_of.result ≡ Some (c.in_ok-place.place, c.in_ok-place.word) = grind arith in
    let names = subst (NamesAs c.in-Some.item.now) yes c.item_of.ensures in (
      tt,
      tt,
      λ r h. inv.2 r (one_item (vec_items c.loop-item.words) (split_whitespace_rest c.loop-item.item-iterator) c.in-Some.item.now (split_whitespace_rest c.next.new.self)
          c.in_ok-place.place c.in_ok-place.word r c.in-Some.ensures.steps names (omega arith) h),
    )

pub loop-item-preserved : goal.loop-item-preserved
loop-item-preserved c =
    let inv = c.loop-item.invariant in
    let yes : c.item_of.result ≡ Some (c.in_ok-place.place, c.in_ok-place.word) = grind arith in
    let names = subst (NamesAs c.in-Some.item.now) yes c.item_of.ensures in (
      tt,
      tt,
      λ r h. inv.2 r (one_item (vec_items c.loop-item.words) (split_whitespace_rest c.loop-item.item-iterator) c.in-Some.item.now (split_whitespace_rest c.next.new.self)
          c.in_ok-place.place c.in_ok-place.word r c.in-Some.ensures.steps names (omega arith)
          (named_past c.args.count (vec_items c.loop-item.words) (split_whitespace_rest c.next.new.self) c.in_ok-place.place c.in_ok-place.word r (grind (arith, common_steps)) h)),
    )

pub returns : goal.returns
returns c =
    let inv = c.loop-item.invariant in
    inv.2 (Some (vec_items c.loop-item.words)) (no_item (vec_items c.loop-item.words) (split_whitespace_rest c.loop-item.item-iterator) c.in-None.ensures.steps.1)
