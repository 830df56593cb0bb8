use Rattle.std.proofs.Common.{get_or, false, arith}
use Rattle.std.proofs.lemmas.Fmt.{hex_byte}
use Rattle.std.proofs.lemmas.Grind.{common_steps}
use Rattle.script.proofs.answer.add_hex.Goals as goal

pub loop-b-preserved : goal.loop-b-preserved
loop-b-preserved c =
    let h = hex_byte false (get_or c.args.bytes.now c.loop-b.b-index 0) (omega (arith, c.type_inv.bytes c.loop-b.b-index)) in
    grind (arith, common_steps)
