use Rattle.std.proofs.Common.{length, refl, arith, length-set, sym, ap, ◌∙◌}
use Rattle.search.specs.Loop.{Go, value}
use Rattle.search.proofs.Resume.{done_go}
use Rattle.search.proofs.Holders.{any_held}
use Rattle.search.proofs.Steps.{blank_all, newest_none, along_more, along_to, went_done, went_on, went_down, without_room}
use Rattle.search.proofs.lacking.Goals as goal

pub loop-p-smaller-in-None : goal.loop-p-smaller-in-None
loop-p-smaller-in-None g c =
    let s = c.args.strategy.now in
    let i = c.loop-p.invariant.fit in
    rw length-set (went_done (g.S.Strategy.game s) (g.met.S.Strategy.few s) c.loop-p.nodes c.args.m i.within i.blanks _ _ c.in-Some.ensures c.in-None.ensures).falls

pub loop-p-preserved-in-None : goal.loop-p-preserved-in-None
loop-p-preserved-in-None g c =
    let s = c.args.strategy.now in
    let i = c.loop-p.invariant.fit in
    along_more (g.S.Strategy.game s) c.args.nodes.now c.args.m c.loop-p.nodes _ c.loop-p.invariant (rw length-set refl)
    (went_done (g.S.Strategy.game s) (g.met.S.Strategy.few s) c.loop-p.nodes c.args.m i.within i.blanks _ _ c.in-Some.ensures c.in-None.ensures)

pub returns-then-m-nodes : goal.returns-then-m-nodes
returns-then-m-nodes g c =
    let s = c.args.strategy.now in
    let i = c.loop-p.invariant.fit in (
      sym (ap (λ n. value (g.S.Strategy.game s) n c.args.nodes.now c.args.m Go) c.loop-p.invariant.long) ∙ sym c.loop-p.invariant.kept
          ∙ without_room (g.S.Strategy.game s) (g.met.S.Strategy.few s) c.loop-p.nodes c.args.m i.within i.blanks _ _ c.in-Some.ensures
          c.in-Some-next_seed.seed c.in-Some-next_seed.after c.in-Some-next_seed.ensures (any_held _ _ _ c.lowest.ensures ∙ c.if-is_none.ensures) (omega (arith, simp length-set at c.if-m-nodes.true)),
      blank_all _ _ c.wipe.ensures,
    )

pub returns-then-is_none : goal.returns-then-is_none
returns-then-is_none g c =
    let s = c.args.strategy.now in
    let i = c.loop-p.invariant.fit in
    along_to (g.S.Strategy.game s) c.args.nodes.now c.args.m c.loop-p.nodes _ c.loop-p.invariant _ _
    (went_down (g.S.Strategy.game s) (g.met.S.Strategy.few s) c.loop-p.nodes c.args.m i.within i.blanks _ _ c.in-Some.ensures
    c.in-Some-next_seed.seed c.in-Some-next_seed.after c.in-Some-next_seed.ensures (any_held _ _ _ c.lowest.ensures ∙ c.if-is_none.ensures) (omega (arith, simp length-set at c.if-m-nodes.false)))

pub loop-p-smaller : goal.loop-p-smaller
loop-p-smaller g c =
    let s = c.args.strategy.now in
    let i = c.loop-p.invariant.fit in
    rw length-set (went_on (g.S.Strategy.game s) (g.met.S.Strategy.few s) c.loop-p.nodes c.args.m i.within i.blanks _ _ c.in-Some.ensures
    c.in-Some-next_seed.seed c.in-Some-next_seed.after c.in-Some-next_seed.ensures (any_held _ _ _ c.lowest.ensures ∙ c.if-is_none.ensures)).falls

pub loop-p-preserved : goal.loop-p-preserved
loop-p-preserved g c =
    let s = c.args.strategy.now in
    let i = c.loop-p.invariant.fit in
    along_more (g.S.Strategy.game s) c.args.nodes.now c.args.m c.loop-p.nodes _ c.loop-p.invariant (rw length-set refl)
    (went_on (g.S.Strategy.game s) (g.met.S.Strategy.few s) c.loop-p.nodes c.args.m i.within i.blanks _ _ c.in-Some.ensures
    c.in-Some-next_seed.seed c.in-Some-next_seed.after c.in-Some-next_seed.ensures (any_held _ _ _ c.lowest.ensures ∙ c.if-is_none.ensures))

pub returns : goal.returns
returns g c =
    let i = c.loop-p.invariant.fit in (
      sym (ap (λ n. value (g.S.Strategy.game c.args.strategy.now) n c.args.nodes.now c.args.m Go) c.loop-p.invariant.long) ∙ sym c.loop-p.invariant.kept
          ∙ done_go (g.S.Strategy.game c.args.strategy.now) (length c.loop-p.nodes) c.loop-p.nodes c.args.m i.within
          (newest_none c.loop-p.nodes c.args.m i.within c.in_default.ensures),
      i.within,
      i.blanks,
      newest_none c.loop-p.nodes c.args.m i.within c.in_default.ensures,
    )
