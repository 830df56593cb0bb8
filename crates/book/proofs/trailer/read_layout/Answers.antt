use Rattle.std.proofs.Common.{◌≡◌, ◌≤◌, false, ◌&&◌, leb, length, sym, ap, ◌∙◌, subst, arith, rules}
use Rattle.book.specs.Layouts.{Laid}
use Rattle.denial.specs.Denials.{granted}
use Rattle.book.proofs.Layouting.{laying_length, laying_count, laying_place, laying_good, laid, layout_is}
use Rattle.book.proofs.trailer.read_layout.Goals as goal

pub returns-then-not-contains-clause-value : goal.returns-then-not-contains-clause-value
returns-then-not-contains-clause-value c =
    let e : (leb 16 (length c.args.bytes.now) && leb (length c.args.bytes.now) 8192) ≡ false = search rules in
    sym (laying_length c.args.bytes.now e)

pub returns-in-Some-clause-value : goal.returns-in-Some-clause-value
returns-in-Some-clause-value c =
    let long : length c.args.bytes.now ≤ 8192 = search rules in
    sym (laying_count c.args.bytes.now (omega arith) long c.in-Some.j c.in-Some.ensures.value)

pub returns-in-Some-first_bad_place-clause-value : goal.returns-in-Some-first_bad_place-clause-value
returns-in-Some-first_bad_place-clause-value c =
    let long : length c.args.bytes.now ≤ 8192 = search rules in
    sym (laying_place c.args.bytes.now (omega arith) long c.in_default.ensures.value c.in-Some-first_bad_place.j c.in-Some-first_bad_place.ensures.value)

pub returns : goal.returns
returns c =
    let bs = c.args.bytes.now in
    let long : length c.args.bytes.now ≤ 8192 = search rules in
    let counts = c.in_default.ensures.value in
    let places = c.in_default-first_bad_place.ensures.value in
    let is = layout_is bs c.section.result c.section-2.result c.section-3.result c.section-4.result
    c.section.ensures.value c.section-2.ensures.value c.section-3.ensures.value c.section-4.ensures.value in
    record {
      value = ap granted is ∙ sym (laying_good bs (omega arith) long counts places);
      laid = subst (λ l. Laid (length bs) l) (sym is) (laid bs (omega arith) long counts places);
    }
