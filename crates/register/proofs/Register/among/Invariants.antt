use Rattle.std.proofs.Common.{◌≡◌, length, replicate}
use Rattle.search.specs.Nodes.{blank}
use Rattle.register.specs.Registers.{setup_of, classes_of}
use Rattle.register.proofs.Placing.{FromClass}
use Rattle.register.proofs.Register.among.Given as goal

-- what is left of the classes decides
abbrev pub invariant-classes : goal.invariant-classes
invariant-classes l = record {
  blank : l.nodes ≡ replicate (length l.nodes) blank;
  rest : FromClass (setup_of l.self) l.entry (length l.fn.nodes) (classes_of l.self) l.k-counter;
}
