use Rattle.std.proofs.Common.{◌≡◌, ℕ, Bool, length}
use Rattle.meaning.specs.Chains.{reach}
use Rattle.found.specs.Rows.{RowsOf}
use Rattle.found.proofs.closure.close.Given as goal

abbrev pub invariant-loop-k : goal.invariant-loop-k
invariant-loop-k l =
    (length l.rows ≡ length l.initial.rows)
    × ((R : ℕ → ℕ → Bool) → RowsOf (length l.initial.rows) R l.initial.rows → RowsOf (length l.initial.rows) (reach l.k R) l.rows)
