use Rattle.std.proofs.Common.{length, refl, arith}
use Rattle.found.proofs.Reaching.{pass_none, pass_more}
use Rattle.found.proofs.closure.close.Goals as goal

pub loop-k-init : goal.loop-k-init
loop-k-init c = (refl, λ R before. pass_none (length c.args.rows.now) R c.args.rows.now before)

pub loop-k-preserved : goal.loop-k-preserved
loop-k-preserved c =
    let same = c.loop-k.invariant.0 in (
      omega arith,
      λ R before.
          pass_more (length c.args.rows.now) c.loop-k.k R c.loop-k.rows c.pass.new.rows c.requires (omega (arith, c.loop-k-test.true)) (λ x l. c.pass.ensures x (omega (arith, l, same)))
          (c.loop-k.invariant.1 R before),
    )
