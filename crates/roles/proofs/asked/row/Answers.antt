use Rattle.std.proofs.Common.{◌∙◌, ap, ltb, ◌&&◌, arith, rules}
use Rattle.words.proofs.Words.{has_none}
use Rattle.roles.proofs.Filling.{bounded, lawful_out}
use Rattle.roles.proofs.asked.row.Goals as goal

pub returns-then-r-count : goal.returns-then-r-count
returns-then-r-count g c s =
    let u = g.H.Order.under c.args.h.now c.args.r in
    c.collect.ensures.members u (λ k b l e. search rules) s
    ∙ ap (λ n. ltb s n && u s) c.count-count.ensures
    ∙ bounded (g.H.Order.size c.args.h.now) u (λ j e. ((g.met.H.Order.lawful c.args.h.now).within c.args.r j e).1) s

pub returns-else-r-count : goal.returns-else-r-count
returns-else-r-count g c s =
    let h = c.args.h.now in
    has_none s ∙ lawful_out (g.H.Order.size h) (g.H.Order.under h) (g.met.H.Order.lawful h) c.args.r s (λ l m. omega (arith, c.count-count.ensures, c.if-r-count.false))
