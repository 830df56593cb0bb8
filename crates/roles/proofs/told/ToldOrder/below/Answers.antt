use Rattle.std.proofs.Common.{length, ◌∙◌, arith}
use Rattle.std.proofs.lemmas.Bool.{le-ltb}
use Rattle.roles.proofs.Closures.{closure_out, closure_told}
use Rattle.roles.proofs.told.ToldOrder.below.Goals as goal

pub returns-then-s-self-clause-chains : goal.returns-then-s-self-clause-chains
returns-then-s-self-clause-chains c =
    let x = c.args.self.now in
    closure_told (length x.roles.now) x.pairs.now x.inside c.args.r c.args.s c.member.result (c.member.ensures ∙ c.row.ensures c.args.s)

pub returns-else-s-self-clause-value : goal.returns-else-s-self-clause-value
returns-else-s-self-clause-value c =
    let x = c.args.self.now in
    le-ltb c.args.s (length x.roles.now) c.if-s-self.false
    ∙ closure_out (length x.roles.now) x.pairs.now c.args.r c.args.s (λ p q. omega (arith, c.if-s-self.false))
