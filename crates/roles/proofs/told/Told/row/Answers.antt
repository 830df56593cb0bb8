use Rattle.std.proofs.Common.{length, ◌∙◌, arith}
use Rattle.words.proofs.Words.{has_none}
use Rattle.roles.proofs.Closures.{row_is, closure_out}
use Rattle.roles.proofs.told.Told.row.Goals as goal

pub returns-then-r-self : goal.returns-then-r-self
returns-then-r-self c =
    let x = c.args.self.now in
    row_is (length x.roles.now) x.pairs.now x.inside c.args.r c.reach.result c.if-r-self.true c.reach.ensures

pub returns-else-r-self : goal.returns-else-r-self
returns-else-r-self c s =
    let x = c.args.self.now in
    has_none s ∙ closure_out (length x.roles.now) x.pairs.now c.args.r s (λ p q. omega (arith, c.if-r-self.false))
