use Rattle.std.proofs.Common.{◌≡◌, length}
use Rattle.search.specs.Loop.{Try, Fit, value, measure}
use Rattle.search.proofs.run_in_blank.Given as goal

abbrev pub invariant-turn : goal.invariant-turn
invariant-turn g l =
    Fit l.nodes l.m (Try l.seed l.c)
    × (value (g.S.Strategy.game l.strategy) (length l.nodes) l.nodes l.m (Try l.seed l.c)
    ≡ value (g.S.Strategy.game l.strategy) (length l.nodes) l.initial.nodes l.initial.m (Try l.initial.seed l.initial.c))

abbrev pub decreases-turn : goal.decreases-turn
decreases-turn g l = measure (g.S.Strategy.game l.strategy) (length l.nodes) l.nodes l.m (Try l.seed l.c)
