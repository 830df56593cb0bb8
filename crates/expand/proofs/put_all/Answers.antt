use Rattle.std.proofs.Common.{◌^◌, ◌<◌, not, ◌&&◌, ◌∙◌, ap₂, arith}
use Rattle.expand.proofs.Ranges.{run_is}
use Rattle.expand.proofs.put_all.Goals as goal

pub returns : goal.returns
returns c =
    let l = c.args.label in
    let f : l.plus < 2 ^ 64 = omega (arith, c.well_formed) in
    c.with_all.ensures
    ∙ run_is c.args.lo c.args.n c.difference-run.result l f c.requires c.difference-run.type_inv
    (λ j. c.difference-run.ensures j ∙ ap₂ (λ a b. a && not b) (c.below.ensures.members j) (c.below-2.ensures.members j))
