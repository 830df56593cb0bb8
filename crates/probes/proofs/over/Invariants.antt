use Rattle.std.proofs.Common.{◌≡◌, ℕ}
use Rattle.probes.specs.Sums.{added}
use Rattle.probes.proofs.over.Given as goal

abbrev pub invariant-loop : goal.invariant-loop
invariant-loop g l = (n : ℕ) → ((r : ℕ) → goal.F-post g l.count r → r ≡ n) → l.sum ≡ added l.counter n
