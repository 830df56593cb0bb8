use Rattle.std.proofs.Common.{◌≤◌, length, arith}
use Rattle.book.specs.declared.Book.{Book}
use Rattle.book.specs.Sections.{says}
use Rattle.book.specs.Views.{view}
use Rattle.book.proofs.Soundness.{book_sound}
use Rattle.roles.specs.declared.rows.Rows.{Rows}
use Rattle.tableau.specs.Working.{propagated_list}
use Rattle.plan.specs.Building.{box_of}
use Rattle.plan.proofs.Listing.{of_short}
use Rattle.plan.proofs.working.Draft.new.Goals as goal

few : (b : Book) (x : Rows) → length (propagated_list (box_of x) (says (view b))) ≤ 3840
few b x = omega (arith, of_short (box_of x) (says (view b)) x.few, (book_sound b).few_entries)

pub overflow_add-width : goal.overflow_add-width
overflow_add-width c = omega (arith, few c.args.book.now c.args.base.now, (book_sound c.args.book.now).few_entries, c.of-list.ensures.counted, c.entry_count.ensures)

pub overflow_add-width-2 : goal.overflow_add-width-2
overflow_add-width-2 c = omega (arith, few c.args.book.now c.args.base.now, (book_sound c.args.book.now).few_entries, c.of-list.ensures.counted, c.entry_count.ensures, c.rule_count.ensures, (book_sound c.args.book.now).few_rules)

pub overflow_add-width-3 : goal.overflow_add-width-3
overflow_add-width-3 c = omega (arith, few c.args.book.now c.args.base.now, (book_sound c.args.book.now).few_entries, c.of-list.ensures.counted, c.entry_count.ensures, c.rule_count.ensures, (book_sound c.args.book.now).few_rules)
