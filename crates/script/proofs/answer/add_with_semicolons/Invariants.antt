use Rattle.std.proofs.Common.{◌≡◌, ◌++◌, drop, string_bytes}
use Rattle.script.specs.Lines.{with_semicolons}
use Rattle.script.proofs.answer.add_with_semicolons.Given as goal

abbrev pub invariant-loop-b : goal.invariant-loop-b
invariant-loop-b l = string_bytes l.out ++ with_semicolons (drop l.b-index l.lines) ≡ string_bytes l.initial.out ++ with_semicolons l.lines
