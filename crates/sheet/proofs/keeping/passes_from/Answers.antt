use Rattle.std.proofs.Common.{ℕ, ◌≡◌, ◌<◌, true, rules}
use Rattle.sheet.specs.Keeping.{RowWithin}
use Rattle.sheet.proofs.Every.{each_below}
use Rattle.sheet.proofs.keeping.passes_from.Goals as goal

pub returns : goal.returns
returns g c =
    let W = g.W.World.interpretation c.args.world.now in
    let r = c.args.r in
    let x = c.args.x in
    let P = λ (y : ℕ). y < W.size → W.joins r x y ≡ true → RowWithin W r y r x in
    let d = each_below c.individuals.result W.size P _ c.individuals.ensures c.all.ensures.ran (λ x q e. search rules) (λ x q e. search rules) in
    ((λ e y l h. d.0 e y l l h), (λ each. d.1 (λ y l _ h. each y l h)))
