use Rattle.std.proofs.Common.{◌≡◌, ◌++◌, string_bytes}
use Rattle.book.specs.Pieces.{parts_of}
use Rattle.book.specs.Coming.{coming_of}
use Rattle.script.specs.Lines.{part_lines}
use Rattle.script.proofs.answer.parts.Given as goal

-- the lines so far, and those of the parts that are to come, are the whole
abbrev pub invariant-loop-part : goal.invariant-loop-part
invariant-loop-part l =
    (goal.iterator-loop-part).can_next l.part-iterator × (goal.iterator-loop-part).is_finite l.part-iterator
    × (string_bytes l.out ++ part_lines (coming_of l.part-iterator) ≡ part_lines (parts_of l.bytes))
