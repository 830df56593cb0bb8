use Rattle.std.proofs.Common.{rules}
use Rattle.roles.proofs.Filling.{rows_all}
use Rattle.roles.proofs.asked.rows.Goals as goal

pub returns : goal.returns
returns g c =
    let h = c.args.h.now in
    rows_all (g.H.Order.size h) (g.H.Order.under h) c.tabulate.result (search rules) (g.met.H.Order.lawful h) (λ r s l. let e = c.tabulate.ensures r l in search rules)
