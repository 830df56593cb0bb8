-- Whether some number below n has a property, as a test of the word of those that have it.
use Rattle.std.proofs.Common.{◌≡◌, ℕ, Bool, true, false, not, ◌&&◌, eqb, ltb, sym, ap, ◌∙◌, ⊎_elim}
use Rattle.std.proofs.lemmas.Bool.{cases_Bool, and_from, and_parts, ltb-true, lt-ltb, eq-eqb, eqb-true, both_ways, not_from_true, not_from_false}
use Rattle.words.specs.Sets.{has}
use Rattle.words.proofs.Words.{has_none, same_word}
use Rattle.meaning.specs.Bounded.{any}
use Rattle.meaning.proofs.Tests.{any_some, any_none}

pub some_member : (w n : ℕ) (p : ℕ → Bool) → ((i : ℕ) → has w i ≡ (ltb i n && p i)) → not (eqb w 0) ≡ any n p
some_member w n p is = ⊎_elim some none (cases_Bool (any n p))
  where
    some : any n p ≡ true → not (eqb w 0) ≡ any n p
    some e =
        let k = any_some n p e in
        let g : has w k.0 ≡ true = is k.0 ∙ and_from (ltb k.0 n) (p k.0) (lt-ltb k.0 n k.1) k.2 in
        ⊎_elim
        (λ z. absurd (both_ways (has w k.0) (ap (λ n. has n k.0) (eqb-true w 0 z) ∙ has_none k.0) g))
        (λ z. not_from_false (eqb w 0) z ∙ sym e)
        (cases_Bool (eqb w 0))

    none : any n p ≡ false → not (eqb w 0) ≡ any n p
    none e =
        let z : w ≡ 0 = same_word w 0 (λ k. ⊎_elim
        (λ g. let q = and_parts (ltb k n) (p k) (sym (is k) ∙ g) in absurd (both_ways (p k) (any_none n p e k (ltb-true k n q.0)) q.1))
        (λ g. g ∙ sym (has_none k))
        (cases_Bool (has w k))) in
        not_from_true (eqb w 0) (eq-eqb w 0 z) ∙ sym e
