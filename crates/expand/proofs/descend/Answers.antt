use Rattle.std.proofs.Common.{suc, not, sym, ◌∙◌, arith}
use Rattle.std.proofs.lemmas.Bool.{not-true, not-false}
use Rattle.plan.specs.Meanings.{table_in}
use Rattle.plan.proofs.Lowered.{plan_lower}
use Rattle.expand.specs.declared.Run.TheVariants.{Done}
use Rattle.expand.specs.Runs.{Comes}
use Rattle.expand.proofs.Running.{some_if, along_free, along_dead, along_one}
use Rattle.expand.proofs.Foreseeing.{foreseen_along, foreseen_clash}
use Rattle.expand.proofs.descend.Goals as goal

pub returns-then-clashes : goal.returns-then-clashes
returns-then-clashes c = foreseen_clash c.args.plan.now c.args.k c.args.growth.label c.args.growth.ahead c.requires.foreseen (sym c.if-clashes.ensures)

pub loop-i-preserved : goal.loop-i-preserved
loop-i-preserved c =
    let far = c.in-Some.ensures in
    along_one (table_in c.args.plan.now) c.args.k c.args.growth.label c.loop-i.left c.in-Some.i c.loop-i.at c.in-Grown.l
    c.loop-i.invariant far.0 far.1 (sym c.in-Grown.ensures.ways)

pub returns-in-Choice : goal.returns-in-Choice
returns-in-Choice c =
    let B = table_in c.args.plan.now in
    let l = c.args.growth.label in
    let far = c.in-Some.ensures in
    let at = c.loop-i.at in
    let lower = c.in-Choice.ensures.lower in
    let so = along_free B c.args.k l c.loop-i.left at c.loop-i.invariant (suc c.in-Some.i) (omega (arith, far.0)) (λ j from lt. far.1 j (omega arith) lt) in (
      so,
      sym c.in-Choice.ensures.ways,
      foreseen_along B c.args.k l c.args.growth.ahead c.requires.foreseen (suc c.in-Some.i) at so,
      lower.0,
      lower.1,
    )

pub returns : goal.returns
returns c =
    let B = table_in c.args.plan.now in
    let l = c.args.growth.label in
    let at = c.loop-i.at in
    let so = c.loop-i.invariant in
    rw c.then_some.ensures (some_if _ (Comes B c.args.k l) (not c.clashes-2.result) (Done at)
    (λ calm. (along_free B c.args.k l c.loop-i.left at so 0 (omega arith) c.in_default.ensures, sym c.clashes-2.ensures ∙ not-true _ calm))
    (λ dead. along_dead B c.args.k l c.loop-i.left at so (plan_lower c.args.plan.now) (sym c.clashes-2.ensures ∙ not-false _ dead)))
