use Rattle.std.proofs.Common.{length}
use Rattle.meaning.specs.Orders.{role_box}
use Rattle.book.specs.Views.{view}
use Rattle.roles.specs.Told.{marked}
use Rattle.roles.specs.Closure.{closure}
use Rattle.roles.proofs.Boxes.{box_alike}
use Rattle.questions.specs.Bases.{count_in, under_in, passing_in}
use Rattle.script.proofs.Fresh.{opened_same}
use Rattle.script.proofs.opening.opened.Goals as goal

pub returns : goal.returns
returns c =
    let s = view c.args.book.now in
    let x = c.of.result in
    opened_same (role_box (count_in x) (under_in x) (passing_in x)) s c.open.result
    (box_alike (count_in x) (length s.roles) (under_in x) (closure (length s.roles) s.pairs) (passing_in x) (marked s.roles) c.of.ensures.count c.of.ensures.relation c.of.ensures.transitive)
    c.open.ensures.answer c.open.ensures.setup c.open.ensures.fresh
