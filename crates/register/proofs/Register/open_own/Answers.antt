use Rattle.std.proofs.Common.{◌≡◌, List, IfOk, OnOk, ap, ◌∙◌, subst}
use Rattle.meaning.specs.Orders.{RoleBox}
use Rattle.book.specs.Sections.{says}
use Rattle.book.specs.Views.{view}
use Rattle.roles.proofs.Boxes.{closed_same}
use Rattle.tableau.specs.Promises.{Opens}
use Rattle.plan.specs.Building.{verdict}
use Rattle.runs.specs.Setups.{setup}
use Rattle.runs.specs.Runs.{Event, Run, Right}
use Rattle.register.specs.Registers.{setup_of, classes_of}
use Rattle.register.proofs.Register.open_own.Goals as goal

-- the closure rows of a book are its own hierarchy
pub returns : goal.returns
returns c =
    let s = view c.args.book.now in
    let x = c.closed.result in
    let e = c.closed.ensures in
    let same = closed_same s x e.count e.relation e.transitive in
    let o = c.open.ensures in
    record {
      answer = o.answer ∙ ap (λ (H : RoleBox). verdict H (says s)) same;
      setup = subst (λ (H : RoleBox). IfOk c.open.result (λ g. setup_of g ≡ setup H (says s))) same o.setup;
      fresh = o.fresh;
      opens = subst (λ (H : RoleBox). OnOk c.open.result (Opens H (says s))) same o.opens;
      right = subst (λ (H : RoleBox). IfOk c.open.result (λ g. (run : List Event) → Run (setup_of g) (classes_of g) run → Right H (says s) run)) same o.right;
    }
