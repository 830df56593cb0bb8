use Rattle.std.proofs.Common.{◌≡◌, ◌++◌, drop, string_bytes}
use Rattle.script.specs.Lines.{hex_bytes}
use Rattle.script.proofs.answer.add_hex.Given as goal

abbrev pub invariant-loop-b : goal.invariant-loop-b
invariant-loop-b l = string_bytes l.out ++ hex_bytes (drop l.b-index l.bytes) ≡ string_bytes l.initial.out ++ hex_bytes l.bytes
