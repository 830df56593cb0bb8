use Rattle.std.proofs.Common.{ℕ, rules}
use Rattle.sheet.specs.Keeping.{RowWithin}
use Rattle.sheet.proofs.Every.{each_below}
use Rattle.sheet.proofs.keeping.includes.Goals as goal

pub returns : goal.returns
returns g c =
    let W = g.W.World.interpretation c.args.world.now in
    let P = λ (x : ℕ). RowWithin W c.args.r x c.args.s x in
    let d = each_below c.individuals.result W.size P _ c.individuals.ensures c.all.ensures.ran (λ x q e. search rules) (λ x q e. search rules) in
    ((λ e x y l. d.0 e x l y), (λ each. d.1 (λ x l y. each x y l)))
