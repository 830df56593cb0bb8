use mathlib.Core.Path.{◌≡◌}
use mathlib.Core.List.{[]}
use Rattle.std.proofs.Common.{length, replicate}
use Rattle.search.specs.Nodes.{blank}
use Rattle.tableau.specs.Search.{explore}
use Rattle.plan.specs.Meanings.{table_in, box_in}
use Rattle.search.specs.Games.{told}
use Rattle.probes.proofs.has_world_over.Given as goal

abbrev pub invariant-loop : goal.invariant-loop
invariant-loop l = (length l.nodes ≡ length l.initial.nodes) × (l.answer ≡ told (explore (box_in l.plan) (table_in l.plan) (length l.initial.nodes) (length l.initial.nodes) [] l.seed))
    × (l.nodes ≡ replicate (length l.nodes) blank)
