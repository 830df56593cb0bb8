use Rattle.book.specs.Sections.{says}
use Rattle.book.specs.Views.{view}
use Rattle.sheet.proofs.Extending.{Filled}
use Rattle.sheet.proofs.judgement.extensions.Given as goal

abbrev pub invariant-loop-i : goal.invariant-loop-i
invariant-loop-i g l = Filled (g.W.World.interpretation l.world) (says (view l.book)).concept l.i l.sets
