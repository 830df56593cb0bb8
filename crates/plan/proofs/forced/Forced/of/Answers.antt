use Rattle.std.proofs.Common.{length}
use Rattle.tableau.specs.Labels.{empty}
use Rattle.plan.proofs.Forcing.{kept_none, kept_next}
use Rattle.plan.proofs.forced.Forced.of.Goals as goal

pub entries-init : goal.entries-init
unfolding empty
entries-init c =
    let es = c.args.entries.now.items.now in
    kept_none (length es) es

pub entries-preserved : goal.entries-preserved
entries-preserved c =
    let e = c.args.entries.now in
    let es = e.items.now in
    kept_next (length es) es c.entries.forced c.entries.i c.with-plus.result c.with-minus.result c.entries.invariant c.entries-test.true e.few
    (e.lower c.entries.i) (rw c.brought.ensures at c.with-plus.ensures) (rw c.brought-in-entries.ensures at c.with-minus.ensures)

pub returns : goal.returns
returns c = c.entries.invariant.so
