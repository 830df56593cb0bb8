use Rattle.std.proofs.Common.{◌∙◌, arith}
use Rattle.std.proofs.lemmas.Bool.Decides.{nat_tests}
use Rattle.roles.specs.Rows.{related}
use Rattle.roles.specs.Laws.{lawful_known}
use Rattle.roles.proofs.Filling.{lawful_out}
use Rattle.roles.proofs.rows.RowsOrder.below.Goals as goal
use Rattle.roles.proofs.rows.RowsOrder.below.Goals.{then-r-self, else-r-self}

pub returns-else-s-self : goal.returns-else-s-self
returns-else-s-self c =
    let x = c.args.self.now in
    let law = lawful_known x.count (related x.rows) x.law in
    c.if-s-self.false ∙ lawful_out x.count (related x.rows) law c.args.r c.args.s
    (λ p q. elim c.if-r-self.branch [ then-r-self w ↦ grind (arith, nat_tests) | else-r-self w ↦ omega (arith, w.if-r-self.false) ])
