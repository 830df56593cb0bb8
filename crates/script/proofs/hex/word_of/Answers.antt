use Rattle.std.proofs.Common.{◌≡◌, ◌<◌, ◌≤◌, true, [], length, get_or, drop, Some, sym, ap, ◌∙◌, arith}
use Rattle.std.specs.List.{list_all}
use Rattle.std.specs.Str.Parse.{digits_value_after}
use Rattle.std.proofs.lemmas.List.{drop_all}
use Rattle.script.specs.Digits.{digit_of}
use Rattle.script.proofs.Reading.{is_digit, digit_is, all_digits, digit_goes, digits_left, digit_fits, one_more, word_fits}
use Rattle.script.proofs.hex.word_of.Goals as goal

pub overflow_mul-word : goal.overflow_mul-word
overflow_mul-word c =
    let at : c.loop-b.b-index < 16 = grind arith in
    omega (arith, digit_fits c.loop-b.word c.loop-b.b-index 0 c.loop-b.invariant.1 at (omega arith))

pub overflow_add-word : goal.overflow_add-word
overflow_add-word c =
    let at : c.loop-b.b-index < 16 = grind arith in
    let is : digit_of (get_or c.as_bytes-b-items.result.now c.loop-b.b-index 0) ≡ Some c.in_ok-word.field-0 = grind arith in
    omega (arith, digit_fits c.loop-b.word c.loop-b.b-index c.in_ok-word.field-0 c.loop-b.invariant.1 at (digit_is (get_or c.as_bytes-b-items.result.now c.loop-b.b-index 0) c.in_ok-word.field-0 is).1)

pub loop-b-preserved : goal.loop-b-preserved
loop-b-preserved c =
    let inv = c.loop-b.invariant in
    let items = c.as_bytes-b-items.result.now in
    let d = c.in_ok-word.field-0 in
    let i = c.loop-b.b-index in
    let in_items : i < length items = grind arith in
    let is : digit_of (get_or items i 0) ≡ Some d = grind arith in (
      sym (digit_goes items i c.loop-b.word d in_items is) ∙ inv.0,
      one_more c.loop-b.word i d inv.1 (digit_is (get_or items i 0) d is).1,
      sym (digits_left items i d in_items is) ∙ inv.2,
    )

pub returns : goal.returns
returns c =
    let inv = c.loop-b.invariant in
    let text = c.args.text.now in
    let items = c.as_bytes-b-items.result.now in
    let i = c.loop-b.b-index in
    let end : drop i items ≡ [] = drop_all i items (grind arith) in
    let all : list_all is_digit text ≡ true = sym inv.2 ∙ ap (list_all is_digit) end in
    let digits = all_digits text all in
    let short : length text ≤ 16 = grind arith in
    let some : 0 < length text = grind arith in
    ((short, all, (some, digits), word_fits text short digits), sym (ap (digits_value_after 16 c.loop-b.word) end) ∙ inv.0)
