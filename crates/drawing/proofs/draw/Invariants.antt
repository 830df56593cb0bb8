use Rattle.std.proofs.Common.{◌≡◌, ◌+◌, ◌*◌}
use Rattle.drawing.proofs.Overlays.{overlaid, Written}
use Rattle.drawing.proofs.draw.Given as goal

-- the words of the names before this one are written
abbrev pub invariant-names : goal.invariant-names
invariant-names g l = Written (g.W.World.interpretation l.world) 1 64 l.n l.word-items

-- the rows of the individuals before this one
abbrev pub invariant-individuals : goal.invariant-individuals
invariant-individuals g l = Written (g.W.World.interpretation l.world) l.first l.m l.x l.row-items

-- word 0, the names, and the rows of the roles before this one
abbrev pub invariant-roles : goal.invariant-roles
invariant-roles g l = l.words ≡ overlaid (g.W.World.interpretation l.world) (65 + l.r * l.m) l.fn.words
