use Rattle.std.proofs.Common.{not, eqb, ap, ◌∙◌}
use lib.Bits.{bit_and}
use Rattle.sheet.proofs.Strays.{kept_below}
use Rattle.sheet.proofs.sheet.is_stray.Goals as goal

pub returns : goal.returns
returns c =
    let w = c.args.word in
    ap not (c.subset.ensures.value ∙ ap (λ b. eqb (bit_and w b) w) c.below.ensures.value ∙ kept_below w c.args.m)
