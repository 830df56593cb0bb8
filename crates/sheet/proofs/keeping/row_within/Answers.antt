use Rattle.std.proofs.Common.{◌∙◌}
use Rattle.sheet.proofs.Sets.{set_tested, decides_within}
use Rattle.sheet.proofs.keeping.row_within.Goals as goal

pub returns : goal.returns
returns g c =
    let W = g.W.World.interpretation c.args.world.now in
    let x = c.args.x in
    let z = c.args.z in
    decides_within W.size c.successors.result c.successors-2.result (W.joins c.args.r x) (W.joins c.args.s z) c.subset.result
    (c.successors.ensures ∙ set_tested W.size x W.size (W.joins c.args.r x) c.requires.first)
    (c.successors-2.ensures ∙ set_tested W.size z W.size (W.joins c.args.s z) c.requires.second)
    c.subset.ensures.members
