use Rattle.std.proofs.Common.{◌≡◌, ◌+◌, ◌-◌, ◌*◌, length, ap, ◌∙◌, arith}
use Rattle.book.specs.Layouts.{number16, section_from}
use Rattle.book.proofs.trailer.Trailer.section.Goals as goal

pub returns-clause-value : goal.returns-clause-value
unfolding section_from
returns-clause-value c =
    let t = c.args.self.now in
    let at : t.start ≡ length t.bytes.now - 16 = omega (arith, t.ends) in
    let p = c.number.ensures.value ∙ ap (λ n. number16 t.bytes.now (n + 4 * c.args.j)) at in
    let later : t.start + 4 * c.args.j + 2 ≡ length t.bytes.now - 16 + (4 * c.args.j + 2) = omega (arith, at) in
    let q = c.number-2.ensures.value ∙ ap (number16 t.bytes.now) later in
    cc
