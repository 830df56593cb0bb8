use Rattle.std.proofs.Common.{ℕ, ◌≡◌, true, rules}
use Rattle.meaning.specs.Books.{Passes}
use Rattle.sheet.proofs.Every.{each_below}
use Rattle.sheet.proofs.keeping.keeps_transitivity.Goals as goal

pub returns : goal.returns
returns g c =
    let W = g.W.World.interpretation c.args.world.now in
    let h = c.args.hierarchy.now in
    let P = λ (r : ℕ). g.H.Hierarchy.passing h r ≡ true → Passes W r in
    let d = each_below c.count.result (g.H.Order.size h) P _ c.count.ensures c.all.ensures.ran (λ x q e. search rules) (λ x q e. search rules) in
    ((λ e r t. d.0 e r (g.met.H.Hierarchy.inside h r t) t), (λ each. d.1 (λ r l t. each r t)))
