-- The expansions and the seeds of a plan, as a search asks for them.
use Rattle.std.proofs.Common.{arith}
use Rattle.plan.specs.declared.Plan.{Plan}
use Rattle.plan.specs.Meanings.{table_in, box_in}
use Rattle.plan.proofs.Lowered.{plan_lower}
use Rattle.expand.specs.Choices.{from}
use Rattle.expand.proofs.Choosing.{from_few}
use Rattle.successor.specs.Obligations.{seeds_from}
use Rattle.successor.proofs.Obliging.{seeds_few}
use Rattle.search.specs.Games.{Game, Bounded}

abbrev pub game_in : Plan → Game
game_in p = record { labels_from = from (table_in p) p.width; seeds_from = seeds_from (box_in p) (table_in p) }

-- a seed has at most 2 ^ 63 expansions, and a label at most 64 obligations
pub game_bounded : (p : Plan) → Bounded (game_in p)
game_bounded p = record {
  labels_few = λ s c. from_few (table_in p) (plan_lower p 0) p.width p.few s c;
  seeds_few = λ l k. omega (arith, seeds_few (box_in p) (table_in p) l k, p.few);
}
