use Rattle.std.proofs.Common.{◌∙◌, ap, ltb, ◌&&◌, rules}
use Rattle.roles.proofs.Filling.{bounded}
use Rattle.roles.proofs.asked.marks.Goals as goal

pub returns : goal.returns
returns g c r =
    let p = g.H.Hierarchy.passing c.args.h.now in
    c.collect.ensures.members p (λ k b l e. search rules) r
    ∙ ap (λ n. ltb r n && p r) c.count.ensures
    ∙ bounded (g.H.Order.size c.args.h.now) p (g.met.H.Hierarchy.inside c.args.h.now) r
