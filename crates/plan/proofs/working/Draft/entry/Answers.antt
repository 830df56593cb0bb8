use Rattle.std.proofs.Common.{◌+◌, ◌-◌, get_or, sym, ap, ◌∙◌, arith}
use Rattle.book.specs.Sections.{says}
use Rattle.book.specs.Views.{view}
use Rattle.tableau.specs.declared.Entry.TheVariants.{Plain}
use Rattle.tableau.specs.Working.{with_other_role, nowhere, rule_entry}
use Rattle.tableau.proofs.Tables.{entry_concept, entry_past}
use Rattle.plan.specs.Building.{box_of}
use Rattle.plan.specs.Listing.{noted_as}
use Rattle.plan.proofs.Filling.{at_propagated, at_rule, at_book, at_everywhere}
use Rattle.plan.proofs.working.Draft.entry.Goals as goal

pub returns-then-j-first : goal.returns-then-j-first
returns-then-j-first c =
    let d = c.args.self.now in
    ap Plain c.concept.ensures ∙ sym (entry_concept (box_of d.base.now) (says (view d.book.now)) c.args.j (omega (arith, c.entry_count-first.ensures, c.if-j-first.true)))

pub returns-then-j-plain : goal.returns-then-j-plain
returns-then-j-plain c =
    let d = c.args.self.now in
    let first = c.entry_count-first in
    let role = (get_or d.list.noted (c.args.j - first.result) (noted_as nowhere)).role in
    ap Plain (c.with_role.ensures ∙ ap (with_other_role role) c.concept-then-j-plain.ensures)
    ∙ at_propagated d c.args.j first.result first.ensures c.if-j-first.false
    (omega (arith, c.plain-plain.ensures, d.lists.counted, first.ensures, c.if-j-plain.true))

pub returns-then-j-plain-2 : goal.returns-then-j-plain-2
returns-then-j-plain-2 c =
    let d = c.args.self.now in
    ap rule_entry c.rule-rule.ensures
    ∙ at_rule (box_of d.base.now) (says (view d.book.now)) c.args.j c.plain-plain.result c.plain-plain.ensures
    c.if-j-plain.false (omega (arith, c.if-j-plain-2.true, c.rule_count-rules.ensures))

pub returns-then-j-plain-3 : goal.returns-then-j-plain-3
returns-then-j-plain-3 c =
    let d = c.args.self.now in
    at_book (box_of d.base.now) (says (view d.book.now)) c.args.j c.plain-plain.result c.rule_count-rules.result
    c.plain-plain.ensures c.rule_count-rules.ensures c.if-j-plain-3.true

pub returns-then-j-plain-4 : goal.returns-then-j-plain-4
returns-then-j-plain-4 c =
    let d = c.args.self.now in
    let book = c.plain-plain.result + c.rule_count-rules.result in
    c.everywhere.ensures
    ∙ at_everywhere (box_of d.base.now) (says (view d.book.now)) c.args.j c.count.result book c.count.ensures
    (omega (arith, c.plain-plain.ensures, c.rule_count-rules.ensures)) c.if-j-plain-4.true

pub returns-else-j-plain-4 : goal.returns-else-j-plain-4
returns-else-j-plain-4 c =
    let d = c.args.self.now in
    sym (entry_past (box_of d.base.now) (says (view d.book.now)) c.args.j
    (omega (arith, c.plain-plain.ensures, c.rule_count-rules.ensures, c.if-j-plain-2.false, c.if-j-plain-3.false, c.if-j-plain-4.false)))
