use Rattle.std.proofs.Common.{◌≡◌, List, ◌∷◌, ap, rules}
use Rattle.book.specs.Pieces.{Span, left}
use Rattle.book.proofs.Going.{note_first, span_first}
use Rattle.book.proofs.parts.reader.PartsIterator.next.Goals.{in-AtRoles, in-AtPairs, in-AtConcepts, in-AtRules, in-AtTrailer}
use Rattle.book.proofs.parts.reader.PartsIterator.next.Goals as goal

pub returns-then-at-place-clause-steps : goal.returns-then-at-place-clause-steps
returns-then-at-place-clause-steps c =
    let r = c.args.self.now in
    rw c.part.ensures.value (note_first r.bytes.now r.at (left r.bytes.now r.layout r.stage) c.target-place.result.0 (ap (λ p. p.0) c.target-place.ensures.value) c.if-at-place.true)

pub returns-then-at-place-clause-goes : goal.returns-then-at-place-clause-goes
returns-then-at-place-clause-goes c = let e = returns-then-at-place-clause-steps c in search (rules, e)

pub returns-clause-steps : goal.returns-clause-steps
returns-clause-steps c =
    let r = c.args.self.now in
    let part = c.part-bytes.ensures.value in
    let step = λ (s : Span) (rest : List Span) (e : left r.bytes.now r.layout r.stage ≡ s ∷ rest). span_first r.bytes.now r.at (left r.bytes.now r.layout r.stage) s rest c.target-place.result e c.target-place.ensures.value c.if-at-place.false in
    elim c.match-self.branch [
      | in-AtRoles w ↦ rw (w.next-is, part) (step _ _ (ap (left r.bytes.now r.layout) w.in-AtRoles.is))
      | in-AtPairs w ↦ rw (w.next-is, part) (step _ _ (ap (left r.bytes.now r.layout) w.in-AtPairs.is))
      | in-AtConcepts w ↦ rw (w.next-is, part) (step _ _ (ap (left r.bytes.now r.layout) w.in-AtConcepts.is))
      | in-AtRules w ↦ rw (w.next-is, part) (step _ _ (ap (left r.bytes.now r.layout) w.in-AtRules.is))
      | in-AtTrailer w ↦ rw (w.next-is, part) (step _ _ (ap (left r.bytes.now r.layout) w.in-AtTrailer.is))
    ]

pub returns-clause-goes : goal.returns-clause-goes
returns-clause-goes c = let e = returns-clause-steps c in search (rules, e)
