use Rattle.book.specs.Sections.{says}
use Rattle.book.specs.Views.{view}
use Rattle.plan.specs.Building.{box_of}
use Rattle.plan.specs.Listing.{Lists}
use Rattle.plan.proofs.Listing.{propagated_to}
use Rattle.plan.proofs.Listing.{so_far}
use Rattle.plan.proofs.propagated.Propagations.of.Given as goal

abbrev pub invariant-roles : goal.invariant-roles
invariant-roles l = Lists l.list (so_far (box_of l.base) (says (view l.book)) l.i l.p)

abbrev pub invariant-entries : goal.invariant-entries
invariant-entries l = Lists l.list (propagated_to (box_of l.base) (says (view l.book)) l.i)
