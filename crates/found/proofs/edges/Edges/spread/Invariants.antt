use Rattle.std.proofs.Common.{◌≡◌, ℕ, ◌/◌, ◌%◌, ◌<◌, ◌≤◌, eqb, get_or}
use lib.Bits.{bit_or}
use Rattle.words.specs.Sets.{has}
use Rattle.found.specs.Rows.{share_of}
use Rattle.found.proofs.edges.Edges.spread.Given as goal

abbrev pub invariant-loop-k : goal.invariant-loop-k
invariant-loop-k l =
    ((j : ℕ) → j < l.k → get_or l.table j 0 ≡ bit_or (get_or l.initial.table j 0) (share_of (eqb (j / 64) l.self.role) (has (get_or l.self.plan.now.rows l.self.role 0) (j / 64)) (get_or l.own (j % 64) 0) (get_or l.chains (j % 64) 0)))
    × ((j : ℕ) → l.k ≤ j → get_or l.table j 0 ≡ get_or l.initial.table j 0)
