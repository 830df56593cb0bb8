-- Rounds over the pairs: a set of roles grows by what is told of its members.
use Rattle.std.specs.Prelude.{ℕ, zero, suc, ◌+◌, ◌*◌, ◌^◌, cond, List, bit_or, slice_index}
use Rattle.words.specs.Sets.{has}

-- the set with the upper role of pair k in it too, where the lower one is
abbrev pub followed : List ℕ → ℕ → ℕ → ℕ
followed pairs k set = cond (has set (slice_index pairs (2 * k))) (bit_or set (2 ^ slice_index pairs (2 * k + 1))) set

-- the set after the first k pairs, one after another
unfoldable pub round_to : List ℕ → ℕ → ℕ → ℕ
round_to pairs zero set = set
round_to pairs (suc k) set = followed pairs k (round_to pairs k set)
