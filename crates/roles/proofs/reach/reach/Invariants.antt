use Rattle.std.proofs.Common.{◌≡◌, ℕ, ◌-◌, ◌^◌, ◌<◌, true}
use Rattle.words.specs.Sets.{has}
use Rattle.roles.specs.Closure.{Leads}
use Rattle.roles.proofs.reach.reach.Given as goal

abbrev pub invariant-rounds : goal.invariant-rounds
invariant-rounds l = (l.set < 2 ^ 64) × (has l.set l.r ≡ true) × ((s : ℕ) → has l.set s ≡ true → Leads l.pairs l.r s)

abbrev pub decreases-rounds : goal.decreases-rounds
decreases-rounds l = 2 ^ 64 - l.set
