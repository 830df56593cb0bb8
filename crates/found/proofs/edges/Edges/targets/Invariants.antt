use Rattle.std.proofs.Common.{◌≡◌, length}
use Rattle.words.specs.Sets.{set_of}
use Rattle.search.specs.Nodes.{labels}
use Rattle.found.proofs.Leading.{led_to}
use Rattle.found.proofs.edges.Edges.targets.Given as goal

abbrev pub invariant-loop-i : goal.invariant-loop-i
invariant-loop-i l = l.set ≡ set_of (length l.self.nodes.now) (led_to l.self.plan.now (labels l.self.nodes.now) l.label l.i l.self.role)
