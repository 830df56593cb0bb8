use Rattle.std.proofs.Common.{List, ℕ, Option, vec_items}
use Rattle.std.specs.Str.Iter.{split_whitespace_rest}
use Rattle.script.specs.Hexes.{Fills, WordsIn}
use Rattle.script.proofs.hex.words_of.Given as goal

-- what comes of the words as they are and the items that are left comes of the whole
abbrev pub invariant-loop-item : goal.invariant-loop-item
invariant-loop-item l =
    (goal.iterator-loop-item).can_next l.item-iterator × (goal.iterator-loop-item).is_finite l.item-iterator
    × ((r : Option (List ℕ)) → Fills l.count (vec_items l.words) (split_whitespace_rest l.item-iterator) r → WordsIn l.count l.named r)
