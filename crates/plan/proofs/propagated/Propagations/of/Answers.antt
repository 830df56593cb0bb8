use Rattle.std.proofs.Common.{◌+◌, sym, refl, ap, ◌∙◌, subst, arith}
use Rattle.book.specs.Sections.{says}
use Rattle.book.specs.Views.{view}
use Rattle.book.proofs.Soundness.{book_sound}
use Rattle.tableau.specs.Working.{propagates_by}
use Rattle.plan.specs.Building.{box_of}
use Rattle.plan.specs.Listing.{Lists}
use Rattle.plan.proofs.Listing.{lists_none, to_none, to_all, so_far, short_so_far, far_none, far_in, far_out, far_all}
use Rattle.plan.proofs.propagated.Propagations.of.Goals as goal
use Rattle.plan.proofs.propagated.Propagations.of.Goals.{then-propagates, else-propagates}

pub entries-init : goal.entries-init
entries-init c = subst (Lists _) (sym (to_none (box_of c.args.base.now) (says (view c.args.book.now)))) (lists_none _ refl refl)

pub roles-init : goal.roles-init
roles-init c = subst (Lists c.entries.list) (sym (far_none (box_of c.args.base.now) (says (view c.args.book.now)) c.entries.i)) c.entries.invariant

pub add-requires-clause-few : goal.add-requires-clause-few
add-requires-clause-few c =
    let short = short_so_far (box_of c.args.base.now) (says (view c.args.book.now)) c.entries.i c.roles.p c.args.base.now.few in
    let few = (book_sound c.args.book.now).few_entries in
    omega (arith, c.roles.invariant.counted, c.entry_count-i-end.ensures, c.entries-test.true, c.count-p-end.ensures, c.args.base.now.few, c.roles-test.true)

pub roles-preserved : goal.roles-preserved
roles-preserved c =
    let H = box_of c.args.base.now in
    let K = says (view c.args.book.now) in
    let i = c.entries.i in
    let p = c.roles.p in
    let is = c.propagates.ensures ∙ ap (λ k. propagates_by H k p) c.concept-concept.ensures in
    elim c.if-propagates.branch [
      | then-propagates w ↦ subst (λ x. Lists x (so_far H K i (p + 1))) (sym (w.list-is ∙ w.add.ensures)) (far_in H K i p c.roles.list (sym is ∙ w.if-propagates.true) c.roles.invariant)
      | else-propagates w ↦ subst (λ x. Lists x (so_far H K i (p + 1))) (sym w.list-is) (far_out H K i p c.roles.list (sym is ∙ w.if-propagates.false) c.roles.invariant)
    ]

pub entries-preserved : goal.entries-preserved
entries-preserved c =
    subst (Lists c.roles.list)
    (far_all (box_of c.args.base.now) (says (view c.args.book.now)) c.entries.i c.roles.p (omega (arith, c.count-p-end.ensures, c.roles-test.false, c.roles.auto.p-end)))
    c.roles.invariant

pub returns : goal.returns
returns c =
    subst (Lists c.entries.list)
    (to_all (box_of c.args.base.now) (says (view c.args.book.now)) c.entries.i (omega (arith, c.entry_count-i-end.ensures, c.entries-test.false, c.entries.auto.i-end)))
    c.entries.invariant
