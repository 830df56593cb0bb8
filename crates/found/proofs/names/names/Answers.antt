use Rattle.std.proofs.Common.{◌<◌, arith}
use Rattle.std.proofs.lemmas.List.{get_or-take, length-take}
use Rattle.meaning.specs.declared.Concept.TheVariants.{Nothing}
use Rattle.tableau.specs.declared.Entry.TheVariants.{Plain}
use Rattle.found.proofs.Naming.{named_none, named_more}
use Rattle.found.proofs.names.names.Goals as goal

pub loop-i-init : goal.loop-i-init
loop-i-init c = named_none c.args.plan.now 64

pub loop-i-preserved : goal.loop-i-preserved
loop-i-preserved c =
    let p = c.args.plan.now in
    let i = c.loop-i.i in
    let low : i < p.width = omega (arith, length-take p.width p.entries) in
    named_more p i c.loop-i.sets c.note.new.sets (λ k j l. rw (← get_or-take p.width p.entries i (Plain Nothing) low) (c.note.ensures k j l)) c.loop-i.invariant
