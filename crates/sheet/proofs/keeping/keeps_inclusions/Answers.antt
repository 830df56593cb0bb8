use Rattle.std.proofs.Common.{ℕ, ◌≡◌, true, rules}
use Rattle.meaning.specs.Books.{Includes}
use Rattle.sheet.proofs.Every.{each_below}
use Rattle.sheet.proofs.keeping.keeps_inclusions.Goals as goal

pub returns : goal.returns
returns g c =
    let W = g.W.World.interpretation c.args.world.now in
    let h = c.args.hierarchy.now in
    let P = λ (r : ℕ). (s : ℕ) → g.H.Order.under h r s ≡ true → Includes W r s in
    let d = each_below c.count.result (g.H.Order.size h) P _ c.count.ensures c.all.ensures.ran (λ x q e. search rules) (λ x q e. search rules) in
    ((λ e r s u. d.0 e r ((g.met.H.Order.lawful h).within _ _ u).0 s u), (λ each. d.1 (λ r l s u. each r s u)))
