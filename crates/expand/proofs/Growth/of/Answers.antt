use Rattle.std.proofs.Common.{sym, subst, arith}
use Rattle.plan.specs.Meanings.{table_in}
use Rattle.tableau.specs.declared.Label.{Label}
use Rattle.expand.specs.Runs.{Foreseen}
use Rattle.expand.proofs.Foreseeing.{foreseen_self, foreseen_forced, sign_held}
use Rattle.expand.proofs.Growth.of.Goals as goal

pub loop-i-init : goal.loop-i-init
loop-i-init c = let p = c.args.plan.now in (foreseen_self p p.width c.args.seed, omega arith)

pub loop-i-preserved : goal.loop-i-preserved
loop-i-preserved c =
    let p = c.args.plan.now in
    let seed = c.args.seed in
    let i = c.in-Some.i in
    let far = c.in-Some.ensures in
    let low = c.loop-i.invariant.1 in
    let held = sign_held seed i c.holds.result c.holds.ensures far.2 in (
      subst (λ (h : Label). Foreseen (table_in p) p.width seed h) (sym (rw c.by.ensures at c.joined-ahead.ensures))
          (foreseen_forced p p.width seed c.loop-i.ahead c.holds.result i c.loop-i.invariant.0 (omega (arith, far.0, low)) held),
      omega (arith, far.0, low),
    )
