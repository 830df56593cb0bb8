use Rattle.std.proofs.Common.{◌≡◌, ◌+◌, [], length, Some, None, Ok, refl, sym, ap, ◌∙◌, subst, arith, length-set}
use Rattle.std.proofs.lemmas.Bool.{eqb-true}
use Rattle.search.specs.Games.{explore_by}
use Rattle.search.specs.Nodes.{Says}
use Rattle.search.specs.Loop.{Try}
use Rattle.search.proofs.Steps.{blank_all, began, no_room, turn_kept, turn_falls, went_none, went_new}
use Rattle.search.proofs.run_in_blank.Goals as goal

pub returns-then-is_empty : goal.returns-then-is_empty
unfolding explore_by
returns-then-is_empty g c =
    let e : length c.args.nodes.now ≡ 0 = eqb-true _ 0 (sym c.if-is_empty.ensures) in
    (ap (λ n. explore_by (g.S.Strategy.game c.args.strategy.now) n n [] c.args.seed) e, blank_all _ _ c.requires)

pub turn-smaller : goal.turn-smaller
turn-smaller g c =
    let s = c.args.strategy.now in
    turn_falls (g.S.Strategy.game s) c.args.nodes.now c.turn.nodes _ _ _ _ _ 0 (Try c.args.seed 0) _ _ _ refl c.retreat.auto.nodes
    (went_none (g.S.Strategy.game s) (g.met.S.Strategy.few s) c.turn.nodes c.turn.m c.turn.seed c.turn.c c.turn.invariant.0.within c.turn.invariant.0.blanks c.in-None.ensures)
    (c.in-Some-retreat.ensures (g.S.Strategy.game s) (g.met.S.Strategy.few s))

pub turn-preserved : goal.turn-preserved
turn-preserved g c =
    let s = c.args.strategy.now in
    let w = went_none (g.S.Strategy.game s) (g.met.S.Strategy.few s) c.turn.nodes c.turn.m c.turn.seed c.turn.c c.turn.invariant.0.within c.turn.invariant.0.blanks c.in-None.ensures in
    let v = c.in-Some-retreat.ensures (g.S.Strategy.game s) (g.met.S.Strategy.few s) in
    (v.fit, turn_kept (g.S.Strategy.game s) c.args.nodes.now c.turn.nodes _ _ _ _ _ 0 (Try c.args.seed 0) _ _ _ refl c.retreat.auto.nodes w v c.turn.invariant.1)

pub turn-smaller-in-Some-2 : goal.turn-smaller-in-Some-2
turn-smaller-in-Some-2 g c =
    let s = c.args.strategy.now in
    let v = simp c.in-Some-2.is at c.in_ok-wanted-in-Some.ensures in
    turn_falls (g.S.Strategy.game s) c.args.nodes.now c.turn.nodes _ _ _ _ _ 0 (Try c.args.seed 0) _ _ _ (rw length-set refl) c.lacking.auto.nodes
    (went_new (g.S.Strategy.game s) (g.met.S.Strategy.few s) c.turn.nodes c.turn.m c.turn.seed c.turn.c _ _ c.turn.invariant.0.within c.turn.invariant.0.blanks c.in-Some.ensures)
    v

pub turn-preserved-in-Some-2 : goal.turn-preserved-in-Some-2
turn-preserved-in-Some-2 g c =
    let s = c.args.strategy.now in
    let v = simp c.in-Some-2.is at c.in_ok-wanted-in-Some.ensures in
    let w = went_new (g.S.Strategy.game s) (g.met.S.Strategy.few s) c.turn.nodes c.turn.m c.turn.seed c.turn.c _ _ c.turn.invariant.0.within c.turn.invariant.0.blanks c.in-Some.ensures in
    (v.fit, turn_kept (g.S.Strategy.game s) c.args.nodes.now c.turn.nodes _ _ _ _ _ 0 (Try c.args.seed 0) _ _ _ (rw length-set refl) c.lacking.auto.nodes w v c.turn.invariant.1)

pub returns-in_err-wanted-in-Some : goal.returns-in_err-wanted-in-Some
returns-in_err-wanted-in-Some g c =
    let s = c.args.strategy.now in
    let w = went_new (g.S.Strategy.game s) (g.met.S.Strategy.few s) c.turn.nodes c.turn.m c.turn.seed c.turn.c _ _ c.turn.invariant.0.within c.turn.invariant.0.blanks c.in-Some.ensures in
    let e = w.kept ∙ began (g.S.Strategy.game s) c.args.nodes.now c.turn.nodes c.turn.m (Try c.turn.seed c.turn.c) c.args.seed (omega arith) (omega (arith, c.turn.invariant.0.within)) c.turn.invariant.1 in
    let w = simp length-set at c.in_err-wanted-in-Some.ensures in
    no_room _ c.from_residual.result _ c.from_residual.ensures.0 (sym e ∙ w.0) w.1

pub returns-in-None-2 : goal.returns-in-None-2
returns-in-None-2 g c =
    let s = c.args.strategy.now in
    let w = went_new (g.S.Strategy.game s) (g.met.S.Strategy.few s) c.turn.nodes c.turn.m c.turn.seed c.turn.c _ _ c.turn.invariant.0.within c.turn.invariant.0.blanks c.in-Some.ensures in
    let e = w.kept ∙ began (g.S.Strategy.game s) c.args.nodes.now c.turn.nodes c.turn.m (Try c.turn.seed c.turn.c) c.args.seed (omega arith) (omega (arith, c.turn.invariant.0.within)) c.turn.invariant.1 in
    subst (Says c.lacking.new.nodes (Ok (Some (c.turn.m + 1)))) e (simp (c.in-None-2.is, length-set) at c.in_ok-wanted-in-Some.ensures)

pub returns-in-None-retreat : goal.returns-in-None-retreat
returns-in-None-retreat g c =
    let s = c.args.strategy.now in
    let w = went_none (g.S.Strategy.game s) (g.met.S.Strategy.few s) c.turn.nodes c.turn.m c.turn.seed c.turn.c c.turn.invariant.0.within c.turn.invariant.0.blanks c.in-None.ensures in
    let e = w.kept ∙ began (g.S.Strategy.game s) c.args.nodes.now c.turn.nodes c.turn.m (Try c.turn.seed c.turn.c) c.args.seed (omega arith) (omega (arith, c.turn.invariant.0.within)) c.turn.invariant.1 in
    subst (Says c.retreat.new.nodes (Ok None)) e (c.in-None-retreat.ensures (g.S.Strategy.game s) (g.met.S.Strategy.few s))
