use Rattle.std.proofs.Common.{ℕ}
use Rattle.plan.specs.Meanings.{table_in, box_in}
use Rattle.successor.proofs.Emptying.{Left}
use Rattle.successor.proofs.Obliging.{Passed}
use Rattle.successor.proofs.next_seed.Given as goal

abbrev pub invariant-loop-i : goal.invariant-loop-i
invariant-loop-i l = (start : ℕ) × Left l.signed start l.i-iterator.0 × Passed (box_in l.plan) (table_in l.plan) l.label l.k start
