use Rattle.std.proofs.Common.{◌≡◌, ℕ, ◌/◌, true, false, not, ◌&&◌, ltb, List, [], length, get_or, refl, rules}
use Rattle.std.proofs.lemmas.Iterator.{YieldsList-from_slice, IsFirst-from_position}
use Rattle.book.specs.Records.{unfit}
use Rattle.book.proofs.Positions.{first_where, two_at}
use Rattle.book.proofs.read.first_unfit.Goals as goal

pub returns-clause-value : goal.returns-clause-value
returns-clause-value c =
    let bytes = c.args.records.now in
    let n = c.args.n in
    let rs = c.as_chunks.result.0.now in
    let p = λ (r : List ℕ). not (ltb (get_or r 0 0) n && ltb (get_or r 1 0) n) in
    first_where rs (length bytes / 2) [] p (unfit n bytes) c.as_chunks.ensures.front_len
    (λ k l. let h = two_at bytes rs k c.as_chunks.ensures.front l in rw (h.0, h.1) refl) _
    (IsFirst-from_position _ _ _ (λ x. p x ≡ true) (λ x. p x ≡ false) c.position.ensures.ran (YieldsList-from_slice rs cc) (λ x q e. search rules) (λ x q e. search rules))
