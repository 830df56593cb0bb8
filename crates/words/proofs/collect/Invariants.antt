use Rattle.std.proofs.Common.{◌≡◌, ℕ, ◌^◌, ◌<◌, ◌≤◌, false}
use Rattle.words.specs.Sets.{has}
use Rattle.words.proofs.collect.Given as goal

-- the numbers that were tested are in the set as they passed, and no others
abbrev pub invariant-loop-k : goal.invariant-loop-k
invariant-loop-k g l = record {
  fits : l.set < 2 ^ 64;
  tested : (j : ℕ) → j < l.k → goal.F-post g l.passes j (has l.set j);
  others : (j : ℕ) → l.k ≤ j → has l.set j ≡ false;
}
