use Rattle.std.proofs.Common.{◌≡◌, vec_items}
use Rattle.std.specs.Slice.Iter.{chunks_rest, chunks_size}
use Rattle.script.specs.Hexes.{bytes_in}
use Rattle.script.proofs.Reading.{onto}
use Rattle.script.proofs.hex.bytes_of.Given as goal

-- the bytes so far, and those of the digits that are left, are the whole
abbrev pub invariant-loop-pair : goal.invariant-loop-pair
invariant-loop-pair l =
    (goal.iterator-loop-pair).can_next l.pair-iterator × (goal.iterator-loop-pair).is_finite l.pair-iterator
    × (chunks_size l.pair-iterator ≡ 2) × (onto (vec_items l.bytes) (bytes_in (chunks_rest l.pair-iterator)) ≡ bytes_in l.hex)
