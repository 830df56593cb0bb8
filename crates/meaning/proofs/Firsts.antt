-- The first number below a bound of which a test holds.
use Rattle.std.proofs.Common.{◌≡◌, ℕ, zero, suc, ◌<◌, ◌≤◌, Bool, true, false, cond, is_some, Some, None, Option, MatchOption, refl, sym, ap, ◌∙◌, ⊎_elim, arith}
use Rattle.std.proofs.lemmas.Bool.{cases_eq, true≢false}
use Rattle.meaning.specs.Bounded.{or_else, first}

-- the test fails on every number below n
abbrev pub Clear : ℕ → (ℕ → Bool) → Type 0
Clear n p = (k : ℕ) → k < n → p k ≡ false

pub first_none : (n : ℕ) (p : ℕ → Bool) → Clear n p → first n p ≡ None
unfolding first
first_none zero p c = refl
first_none (suc n) p c =
    ap (λ o. or_else o (cond (p n) (Some n) None)) (first_none n p (λ k h. c k (omega arith)))
    ∙ ap (λ b. cond b (Some n) None) (c n (omega arith))

-- k passes, and no number below it does
pub first_some : (n k : ℕ) (p : ℕ → Bool) → k < n → Clear k p → p k ≡ true → first n p ≡ Some k
unfolding first
first_some zero k p l c e = absurd (omega arith)
first_some (suc n) k p l c e = ⊎_elim
    (λ (same : k ≡ n). rw same (ap (λ o. or_else o (cond (p n) (Some n) None)) (first_none n p (λ j h. c j (omega arith)))
    ∙ ap (λ b. cond b (Some n) None) (rw same at e)))
    (λ other. ap (λ o. or_else o (cond (p n) (Some n) None)) (first_some n k p (omega arith) c e))
    (cases_eq k n)

none_parts : (o y : Option ℕ) → is_some (or_else o y) ≡ false → (is_some o ≡ false) × (is_some y ≡ false)
none_parts None y e = (refl, e)
none_parts (Some k) y e = absurd (true≢false e)

none_cond : (b : Bool) (n : ℕ) → is_some (cond b (Some n) None) ≡ false → b ≡ false
none_cond true n e = e
none_cond false n e = refl

-- where there is no first one, there is none
pub clear_from : (n : ℕ) (p : ℕ → Bool) → is_some (first n p) ≡ false → Clear n p
unfolding first
clear_from zero p e k l = absurd (omega arith)
clear_from (suc n) p e k l =
    let parts = none_parts (first n p) (cond (p n) (Some n) None) e in
    ⊎_elim (λ (same : k ≡ n). rw same (none_cond (p n) n parts.1)) (λ other. clear_from n p parts.0 k (omega arith)) (cases_eq k n)

-- what a search upward from 0 comes to: all below n fail, or the number passes, and all below it fail
abbrev pub Found : ℕ → (ℕ → Bool) → Option ℕ → Type 0
Found n p r = MatchOption r ((k : ℕ) → 0 ≤ k → k < n → p k ≡ false) (λ i. (0 ≤ i) × (i < n) × (p i ≡ true) × ((k : ℕ) → 0 ≤ k → k < i → p k ≡ false))

pub first_found : (n : ℕ) (p : ℕ → Bool) (r : Option ℕ) → Found n p r → r ≡ first n p
first_found n p None f = sym (first_none n p (λ k l. f k (omega arith) l))
first_found n p (Some i) f = sym (first_some n i p f.1 (λ k l. f.3 k (omega arith) l) f.2)
