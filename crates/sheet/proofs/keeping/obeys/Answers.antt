use Rattle.std.proofs.Common.{refl}
use Rattle.book.specs.Sections.{says}
use Rattle.book.specs.Views.{view}
use Rattle.sheet.proofs.Rules.{premise_fits, conclusion_fits, decides_obeys}
use Rattle.sheet.proofs.keeping.obeys.Goals as goal

pub bounds-sets-rule : goal.bounds-sets-rule
bounds-sets-rule g c = premise_fits c.args.book.now c.args.k _ c.rule-rule.result c.requires.inside refl c.rule-rule.ensures

pub bounds-sets-rule-2 : goal.bounds-sets-rule-2
bounds-sets-rule-2 g c = conclusion_fits c.args.book.now c.args.k _ c.rule-rule.result c.requires.inside refl c.rule-rule.ensures

pub returns : goal.returns
returns g c =
    decides_obeys c.args.book.now c.args.k _ c.rule-rule.result c.requires.inside refl c.rule-rule.ensures
    (g.W.World.interpretation c.args.world.now) (says (view c.args.book.now)).entries c.args.sets.now c.subset.result
    refl c.requires.known c.subset.ensures.members
