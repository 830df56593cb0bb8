use Rattle.std.proofs.Common.{◌≤◌, sym, arith}
use Rattle.words.specs.Sets.{has}
use Rattle.book.specs.Sections.{says}
use Rattle.book.specs.Views.{view}
use Rattle.book.proofs.Soundness.{book_sound}
use Rattle.roles.specs.Rows.{related, lawful_known}
use Rattle.tableau.specs.Promises.{Opens}
use Rattle.tableau.specs.Working.{width_of}
use Rattle.plan.specs.Building.{box_of}
use Rattle.plan.proofs.Building.{opens_from, layer_granted}
use Rattle.plan.proofs.build.over.Goals as goal
use Rattle.plan.proofs.build.over.Goals.{In_ok-draft}

-- the tests make sure that the hierarchy fits the book
opens : (c : In_ok-draft) → Opens (box_of c.args.base.now) (says (view c.args.book.now))
opens c =
    let b = c.args.base.now in
    let K = says (view c.args.book.now) in
    let d = c.in_ok-draft.draft in
    let h = layer_granted b.count c.in_ok-universal.universal.base.now b _ c.in_ok-universal.ensures.value in
    let narrow : width_of (box_of b) K ≤ 64 = rw (sym c.in_ok-draft.ensures.book) (rw (sym c.in_ok-draft.ensures.base) (omega (arith, d.width_is, d.narrow))) in
    opens_from b.count (related b.rows) (has b.marks) K (lawful_known b.count (related b.rows) b.law) b.inside (book_sound c.args.book.now)
    (omega (arith, c.count-count.ensures, c.role_count.ensures, c.if-count-role_count.false)) h.0 narrow

pub assembled-requires-clause-opens : goal.assembled-requires-clause-opens
assembled-requires-clause-opens c = rw c.in_ok-draft.ensures.book (rw c.in_ok-draft.ensures.base (opens (goal.at.assembled-requires-clause-opens c).In_ok-draft))

pub returns-clause-opens : goal.returns-clause-opens
returns-clause-opens c = opens (goal.at.returns-clause-opens c).In_ok-draft
