use Rattle.std.proofs.Common.{◌≡◌, ◌++◌, drop, string_bytes}
use Rattle.script.specs.Lines.{word_items}
use Rattle.script.proofs.answer.add_words.Given as goal

abbrev pub invariant-loop-place : goal.invariant-loop-place
invariant-loop-place l = string_bytes l.out ++ word_items l.place (drop l.place l.words) ≡ string_bytes l.initial.out ++ word_items 0 l.words
