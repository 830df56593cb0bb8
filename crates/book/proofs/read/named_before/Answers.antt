use Rattle.std.proofs.Common.{◌≡◌, ℕ, ◌+◌, ◌*◌, true, false, ◌&&◌, eqb, List, [], get_or, take, refl, arith, rules}
use Rattle.std.proofs.lemmas.List.{get_or-take, length-take-le}
use Rattle.std.proofs.lemmas.Iterator.{YieldsList-from_slice, YieldsList-from_take, cases_from_any}
use Rattle.book.specs.Kinds.{kind_of, is_name}
use Rattle.book.specs.Records.{named}
use Rattle.book.proofs.Positions.{any_where, four_at}
use Rattle.book.proofs.read.named_before.Goals as goal

pub returns : goal.returns
unfolding named
returns c =
    let cs = c.args.concepts.now in
    let i = c.args.i in
    let name = c.args.name in
    let es = c.as_chunks.result.0.now in
    let p = λ (r : List ℕ). is_name (kind_of (get_or r 0 0)) && eqb (get_or r 1 0) name in
    any_where (take i es) i [] p (λ j. is_name (kind_of (get_or cs (4 * j) 0)) && eqb (get_or cs (4 * j + 1) 0) name)
    (length-take-le i es (omega (arith, c.as_chunks.ensures.front_len)))
    (λ k l. let h = four_at cs es k c.as_chunks.ensures.front (omega arith) in rw (get_or-take i es k [] l, h.0, h.1) refl) _
    (cases_from_any _ _ _ (λ x. p x ≡ true) (λ x. p x ≡ false) c.any.ensures.ran (YieldsList-from_take i (YieldsList-from_slice es cc) cc) (λ x q e. search rules) (λ x q e. search rules))
