use Rattle.std.proofs.Common.{◌≡◌, ℕ, ◌<◌, ◌≤◌, get_or}
use Rattle.found.specs.Rows.{by_way_of}
use Rattle.found.proofs.closure.pass.Given as goal

abbrev pub invariant-loop-row : goal.invariant-loop-row
invariant-loop-row l =
    ((y : ℕ) → y < l.row-index → get_or l.rows y 0 ≡ by_way_of l.k l.middle (get_or l.initial.rows y 0))
    × ((y : ℕ) → l.row-index ≤ y → get_or l.rows y 0 ≡ get_or l.initial.rows y 0)
