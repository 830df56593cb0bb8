use Rattle.std.proofs.Common.{IfOk, OnOk, subst}
use Rattle.book.specs.Sections.{says}
use Rattle.book.specs.Views.{view}
use Rattle.meaning.specs.Orders.{RoleBox, role_box}
use Rattle.roles.proofs.Boxes.{rows_same}
use Rattle.tableau.specs.Promises.{Opens}
use Rattle.plan.specs.Building.{Planned, box_of}
use Rattle.plan.proofs.Building.{answer_like}
use Rattle.plan.proofs.Plan.new.Goals as goal

pub returns : goal.returns
returns g c =
    let h = c.args.hierarchy.now in
    let b = c.copied-base in
    let K = says (view c.args.book.now) in
    let H = role_box (g.H.Order.size h) (g.H.Order.under h) (g.H.Hierarchy.passing h) in
    let same = rows_same b.result (g.H.Order.size h) (g.H.Order.under h) (g.H.Hierarchy.passing h) b.ensures.count b.ensures.relation b.ensures.transitive in
    record {
      answer = answer_like (box_of b.result) H K _ same c.over.ensures.answer;
      planned = subst (λ (G : RoleBox). IfOk c.over.result (Planned G K)) same c.over.ensures.planned;
      opens = subst (λ (G : RoleBox). OnOk c.over.result (Opens G K)) same c.over.ensures.opens;
    }
