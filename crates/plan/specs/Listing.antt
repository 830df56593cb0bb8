-- The propagated restrictions as a list in an array.
use Rattle.std.specs.Prelude.{◌≡◌, ℕ, ◌+◌, ◌<◌, cond, List, length, nat_lt, slice_index_or, slice_set}
use Rattle.tableau.specs.Working.{Propagated, nowhere}
use Rattle.plan.specs.declared.propagated.Propagation.{Propagation}
use Rattle.plan.specs.declared.propagated.Propagations.{Propagations}

-- one of them as it is noted
abbrev pub noted_as : Propagated → Propagation
noted_as o = record { origin = o.origin; role = o.role }

-- the array holds the first 64 of the list
pub record Lists (x : Propagations) (list : List Propagated) : Type 0 where
  pub long : length x.noted ≡ 64
  pub counted : x.count ≡ length list
  pub held : (k : ℕ) → k < length list → k < 64 → slice_index_or x.noted k (noted_as nowhere) ≡ noted_as (slice_index_or list k nowhere)

-- one more at the end; past the 64th it is only counted
abbrev pub added : Propagations → ℕ → ℕ → Propagations
added x origin role = record {
  count = x.count + 1;
  noted = cond (nat_lt x.count 64) (slice_set x.noted x.count (record { origin = origin; role = role })) x.noted;
}
