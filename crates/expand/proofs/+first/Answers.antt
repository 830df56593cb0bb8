use Rattle.std.proofs.Common.{◌≡◌, suc, ◌+◌, [], eqb, refl, ◌∙◌, arith}
use Rattle.std.proofs.lemmas.Bool.{eqb-true, eqb-false}
use Rattle.tableau.specs.Labels.{put}
use Rattle.plan.specs.Meanings.{table_in}
use Rattle.plan.proofs.Lowered.{plan_lower}
use Rattle.expand.specs.Choices.{from, FirstFrom}
use Rattle.expand.proofs.Choosing.{weight_few}
use Rattle.expand.proofs.Enumerating.{end_here, end_none, two_none, two_first, two_second, past_first}
use Rattle.expand.proofs.Running.{some_if, along_first}
use Rattle.expand.proofs.Foreseeing.{fork_first, fork_second}
use Rattle.expand.proofs.+first.Goals as goal
use Rattle.expand.proofs.+first.Goals.{then-c-weight+in_default, else-c-weight}

pub first-requires : goal.first-requires
first-requires t c =
    let so = rw c.in-Fork.is at c.in_ok-l.ensures in
    let few = so.0.few in
    let x = c.in-Fork.x in
    let y = c.in-Fork.y in
    let g = c.in-Fork.growth in (
      omega (arith, c.decreases, few),
      (
        omega (arith, c.requires.width, few),
        fork_first c.args.plan.now c.in-Fork.j g.label g.ahead so.2 x.sign y.sign x.entry y.entry so.1
            c.with.result.label c.with.result.ahead so.3 c.with.ensures.label c.with.ensures.ahead,
      ),
    )

pub first-requires-in-Fork : goal.first-requires-in-Fork
first-requires-in-Fork t c =
    let so = rw c.in-Fork.is at c.in_ok-l.ensures in
    let few = so.0.few in
    let x = c.in-Fork.x in
    let y = c.in-Fork.y in
    let g = c.in-Fork.growth in (
      omega (arith, c.decreases, few),
      (
        omega (arith, c.requires.width, few),
        fork_second c.args.plan.now c.in-Fork.j g.label g.ahead so.2 x.sign y.sign x.entry y.entry so.1
            c.with-in-Fork.result.label c.with-in-Fork.result.ahead so.4 c.with-in-Fork.ensures.label c.with-in-Fork.ensures.ahead,
      ),
    )

pub returns-in-Done : goal.returns-in-Done
returns-in-Done t c =
    let p = c.args.plan.now in
    let B = table_in p in
    let l = c.args.growth.label in
    let m = c.in-Done.l in
    let so = rw c.in-Done.is at c.in_ok-l.ensures in
    rw c.then_some.ensures (some_if _ (FirstFrom B c.args.k l c.args.c) (eqb c.args.c 0) (m, 0)
    (λ at. along_first B c.args.k l 0 m so.0 c.args.c (m, 0) (end_here B 0 m c.args.c refl (eqb-true c.args.c 0 at) so.1 (plan_lower p 0)))
    (λ past. so.0.same c.args.c ∙ end_none B 0 m c.args.c refl (omega (arith, eqb-false c.args.c 0 past)) (plan_lower p 0)))

pub returns-in-Some : goal.returns-in-Some
returns-in-Some t c =
    let B = table_in c.args.plan.now in
    let j = c.in-Fork.j in
    let so = rw c.in-Fork.is at c.in_ok-l.ensures in
    let x = c.in-Fork.x in
    let y = c.in-Fork.y in
    let m = c.in-Fork.growth.label in
    along_first B c.args.k c.args.growth.label (suc j) m so.0 c.args.c c.in-Some.found
    (two_first B (suc j) j m refl (plan_lower c.args.plan.now 0) (put x.sign x.entry m) (put y.sign y.entry m) so.1
    c.weight_of-weight.result c.weight_of-weight.ensures c.args.c c.in-Some.found c.if-c-weight.true (rw c.with.ensures.label at c.in-Some.ensures))

pub overflow_add-result : goal.overflow_add-result
overflow_add-result t c =
    let so = rw c.in-Fork.is at c.in_ok-l.ensures in
    let few = so.0.few in
    let wide = c.args.plan.now.few in
    omega (arith, c.weight_of-weight.ensures, c.in_ok-l-in-Fork.ensures.1, weight_few c.in-Fork.j (omega (arith, few, c.requires.width, wide)))

pub returns-in_ok-l-in-Fork : goal.returns-in_ok-l-in-Fork
returns-in_ok-l-in-Fork t c =
    let B = table_in c.args.plan.now in
    let low = plan_lower c.args.plan.now 0 in
    let j = c.in-Fork.j in
    let so = rw c.in-Fork.is at c.in_ok-l.ensures in
    let x = c.in-Fork.x in
    let y = c.in-Fork.y in
    let m = c.in-Fork.growth.label in
    let a = put x.sign x.entry m in
    let v = c.weight_of-weight.result in
    let is = c.weight_of-weight.ensures in
    let none : from B j a c.args.c ≡ [] =
    elim c.if-c-weight.branch [
      | then-c-weight+in_default w ↦ rw w.with.ensures.label at w.in_default.ensures
      | else-c-weight w ↦ past_first B j low a v is c.args.c w.if-c-weight.false
    ] in
    let l = c.in_ok-l-in-Fork.l in
    let q = c.in_ok-l-in-Fork.q in
    along_first B c.args.k c.args.growth.label (suc j) m so.0 c.args.c (l, q + v)
    (two_second B (suc j) j m refl low a (put y.sign y.entry m) so.1 v is c.args.c c.saturating_sub.result c.saturating_sub.ensures
    none l q (rw c.with-in-Fork.ensures.label at c.in_ok-l-in-Fork.ensures))

pub returns-in_err-l-in-Fork : goal.returns-in_err-l-in-Fork
returns-in_err-l-in-Fork t c =
    let B = table_in c.args.plan.now in
    let low = plan_lower c.args.plan.now 0 in
    let j = c.in-Fork.j in
    let so = rw c.in-Fork.is at c.in_ok-l.ensures in
    let x = c.in-Fork.x in
    let y = c.in-Fork.y in
    let m = c.in-Fork.growth.label in
    let a = put x.sign x.entry m in
    let v = c.weight_of-weight.result in
    let is = c.weight_of-weight.ensures in
    let none : from B j a c.args.c ≡ [] =
    elim c.if-c-weight.branch [
      | then-c-weight+in_default w ↦ rw w.with.ensures.label at w.in_default.ensures
      | else-c-weight w ↦ past_first B j low a v is c.args.c w.if-c-weight.false
    ] in
    rw c.from_residual-in_err-l-in-Fork.ensures
    (so.0.same c.args.c
    ∙ two_none B (suc j) j m refl low a (put y.sign y.entry m) so.1 v is c.args.c c.saturating_sub.result c.saturating_sub.ensures none
    (rw c.with-in-Fork.ensures.label at c.in_err-l-in-Fork.ensures))
