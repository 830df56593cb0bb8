use Rattle.std.proofs.Common.{ℕ}
use Rattle.successor.proofs.Emptying.{Left}
use Rattle.successor.proofs.Skipping.{Told}
use Rattle.successor.proofs.seed.Given as goal

abbrev pub invariant-loop-i : goal.invariant-loop-i
invariant-loop-i l = (start : ℕ) × Left l.asked start l.i-iterator.0 × Told l.plan l.fn.label l.r l.initial.acc start l.acc
