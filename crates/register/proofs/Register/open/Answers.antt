use Rattle.meaning.specs.Orders.{role_box}
use Rattle.book.specs.Sections.{says}
use Rattle.book.specs.Views.{view}
use Rattle.register.proofs.Opening.{setup_same, right_from}
use Rattle.register.proofs.Register.open.Goals as goal

pub returns-clause-setup : goal.returns-clause-setup
returns-clause-setup g c =
    let h = c.args.hierarchy.now in
    let e = c.in_ok-plan.ensures in
    setup_same (role_box (g.H.Order.size h) (g.H.Order.under h) (g.H.Hierarchy.passing h)) (says (view c.args.book.now)) c.in_ok-plan.plan c.entry_count-entries.result e.planned e.opens c.entry_count-entries.ensures

pub returns-clause-right : goal.returns-clause-right
returns-clause-right g c =
    let h = c.args.hierarchy.now in
    let e = c.in_ok-plan.ensures in
    right_from (role_box (g.H.Order.size h) (g.H.Order.under h) (g.H.Hierarchy.passing h)) (says (view c.args.book.now)) c.in_ok-plan.plan c.entry_count-entries.result _ e.planned e.opens c.entry_count-entries.ensures c.new-classes.ensures
