use Rattle.std.proofs.Common.{◌≡◌, Some, vec_items, refl, ◌∙◌, arith}
use Rattle.std.specs.Slice.Iter.{chunks_rest, chunks_size}
use Rattle.std.proofs.lemmas.Grind.{common_steps}
use Rattle.script.specs.Hexes.{byte_of, bytes_in}
use Rattle.script.proofs.Reading.{odd_none, pair_goes}
use Rattle.script.proofs.hex.bytes_of.Goals as goal

pub returns-then-hex-ne0 : goal.returns-then-hex-ne0
returns-then-hex-ne0 c = rw (odd_none c.args.hex.now (λ e. c.if-hex-ne0.true e)) refl

pub loop-pair-preserved : goal.loop-pair-preserved
loop-pair-preserved c =
    let inv = c.loop-pair.invariant in
    let s = c.in-Some.ensures.steps in
    let is : byte_of c.in-Some.pair.now ≡ Some c.in_ok-ok_or.field-0 = grind arith in (
      omega (arith, s.0, inv.2),
      tt,
      s.0 ∙ inv.2,
      pair_goes (vec_items c.loop-pair.bytes) (vec_items c.push.new.self) (chunks_rest c.loop-pair.pair-iterator) c.in-Some.pair.now (chunks_rest c.next.new.self)
          (chunks_size c.loop-pair.pair-iterator) c.in_ok-ok_or.field-0 (bytes_in c.args.hex.now) inv.2 s.1.0 s.1.1 s.1.2 is (grind (arith, common_steps)) inv.3,
    )
