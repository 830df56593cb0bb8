use Rattle.std.proofs.Common.{◌≡◌, ℕ, ◌+◌, ◌/◌, true, false, not, ◌&&◌, eqb, List, [], length, get_or, refl, ◌∙◌, arith, rules}
use Rattle.std.specs.List.{enumerate_from}
use Rattle.std.proofs.lemmas.List.FromFn.{length-enumerate_from, get_or-enumerate_from}
use Rattle.std.proofs.lemmas.Iterator.{YieldsList-from_slice, IsFirst-from_position}
use Rattle.std.proofs.lemmas.Iterator.Consumers.{YieldsList-from_enumerate}
use Rattle.book.specs.Kinds.{kind_of}
use Rattle.book.specs.Records.{bad_concept, fitting}
use Rattle.book.proofs.Positions.{first_where, four_at}
use Rattle.book.proofs.read.first_bad_concept.Goals as goal

pub returns-clause-value : goal.returns-clause-value
returns-clause-value c =
    let cs = c.args.concepts.now in
    let n = c.args.roles in
    let es = c.as_chunks.result.0.now in
    let p = λ (e : ℕ × List ℕ). not (fitting n cs e.0 (kind_of (get_or e.1 0 0)) (get_or e.1 1 0) (get_or e.1 2 0) && eqb (get_or e.1 3 0) 0) in
    first_where (enumerate_from 0 es) (length cs / 4) (0, []) p (bad_concept n cs) (length-enumerate_from 0 es ∙ c.as_chunks.ensures.front_len)
    (λ k l.
    let h = four_at cs es k c.as_chunks.ensures.front l in
    let number : 0 + k ≡ k = omega arith in
    rw (get_or-enumerate_from 0 es k (0, []) (omega (arith, c.as_chunks.ensures.front_len)), number, h.0, h.1, h.2, h.3) refl) _
    (IsFirst-from_position _ _ _ (λ x. p x ≡ true) (λ x. p x ≡ false) c.position.ensures.ran (YieldsList-from_enumerate (YieldsList-from_slice es cc) cc) (λ x q e. search rules) (λ x q e. search rules))
