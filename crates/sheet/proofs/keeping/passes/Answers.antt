use Rattle.std.proofs.Common.{ℕ, ◌≡◌, ◌<◌, true, rules}
use Rattle.sheet.specs.Keeping.{RowWithin}
use Rattle.sheet.proofs.Every.{each_below}
use Rattle.sheet.proofs.keeping.passes.Goals as goal

pub returns : goal.returns
returns g c =
    let W = g.W.World.interpretation c.args.world.now in
    let r = c.args.r in
    let P = λ (x : ℕ). (y : ℕ) → y < W.size → W.joins r x y ≡ true → RowWithin W r y r x in
    let d = each_below c.individuals.result W.size P _ c.individuals.ensures c.all.ensures.ran (λ x q e. search rules) (λ x q e. search rules) in
    ((λ e x y z l m n h i. d.0 e x l y m h z n i), (λ each. d.1 (λ x l y m h z n i. each x y z l m n h i)))
