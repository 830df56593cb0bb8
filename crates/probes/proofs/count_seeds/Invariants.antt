use mathlib.Core.Path.{◌≡◌}
use Prim.Native.Nat.{◌+◌}
use lib.ListN.{length}
use Rattle.successor.specs.Obligations.{seeds_in}
use Rattle.probes.proofs.count_seeds.Given as goal

abbrev pub invariant-loop-after : goal.invariant-loop-after
invariant-loop-after l = l.count + length (seeds_in l.plan l.label l.k) ≡ length (seeds_in l.plan l.label 0)

abbrev pub decreases-loop-after : goal.decreases-loop-after
decreases-loop-after l = length (seeds_in l.plan l.label l.k)
