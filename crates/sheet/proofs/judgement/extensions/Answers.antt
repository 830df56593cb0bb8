use Rattle.std.proofs.Common.{get_or, sym, ap, ◌∙◌, subst, arith}
use Rattle.words.specs.Sets.{has, set_of}
use Rattle.meaning.specs.Worlds.{denotes, Lower}
use Rattle.book.specs.Sections.{says}
use Rattle.book.specs.Views.{view}
use Rattle.sheet.specs.Judgements.{Asked}
use Rattle.sheet.proofs.Books.{asked}
use Rattle.book.proofs.Soundness.{book_sound}
use Rattle.sheet.proofs.Extending.{lower_more, filled_more, filled_none}
use Rattle.sheet.proofs.judgement.extensions.Goals as goal

pub loop-i-init : goal.loop-i-init
loop-i-init g c = filled_none (g.W.World.interpretation c.args.world.now) (says (view c.args.book.now)).concept

pub extension-requires-clause-lower : goal.extension-requires-clause-lower
extension-requires-clause-lower g c =
    let b = c.args.book.now in
    let i = c.loop-i.i in
    let s = book_sound b in
    subst (Lower 64) (sym c.concept.ensures) (lower_more i 64 ((says (view b)).concept i) (omega (arith, s.few_entries)) (s.lower i))

pub extension-requires-clause-asked : goal.extension-requires-clause-asked
extension-requires-clause-asked g c =
    subst Asked (sym c.concept.ensures) (asked c.args.book.now c.loop-i.i (omega (arith, c.loop-i-test.true, c.requires)))

pub loop-i-preserved : goal.loop-i-preserved
loop-i-preserved g c =
    let W = g.W.World.interpretation c.args.world.now in
    let b = c.args.book.now in
    let s = book_sound b in
    filled_more W (says (view b)).concept s.lower c.loop-i.i c.extension.result c.loop-i.sets
    (omega (arith, c.loop-i-test.true, c.requires, s.few_entries)) c.loop-i.invariant
    (c.extension.ensures ∙ ap (λ k. set_of W.size (denotes W k (λ a. has (get_or c.loop-i.sets a 0)))) c.concept.ensures)
