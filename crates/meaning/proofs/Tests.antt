-- `any` and `all` against what they say.
use Rattle.std.proofs.Common.{◌≡◌, ℕ, zero, suc, ◌<◌, Bool, true, false, refl, ⊎_elim, arith}
use Rattle.std.proofs.lemmas.Bool.{cases_eq, and_parts, and_from, or_cases, or_left, or_right, or_parts, or_from}
use Rattle.meaning.specs.Bounded.{any, all}

pub any_from : (n k : ℕ) (p : ℕ → Bool) → k < n → p k ≡ true → any n p ≡ true
unfolding any
any_from zero k p l e = absurd (omega arith)
any_from (suc n) k p l e = ⊎_elim
    (λ (same : k ≡ n). or_left (p n) (any n p) (rw same at e))
    (λ other. or_right (p n) (any n p) (any_from n k p (omega arith) e))
    (cases_eq k n)

pub any_some : (n : ℕ) (p : ℕ → Bool) → any n p ≡ true → (k : ℕ) × (k < n) × (p k ≡ true)
unfolding any
any_some zero p e = absurd (let z : ◌≡◌ {A = ℕ} 0 1 = cc in omega arith)
any_some (suc n) p e = ⊎_elim
    (λ h. (n, omega arith, h))
    (λ h. let r = any_some n p h in (r.0, omega (arith, r.1), r.2))
    (or_cases (p n) (any n p) e)

pub any_none : (n : ℕ) (p : ℕ → Bool) → any n p ≡ false → (k : ℕ) → k < n → p k ≡ false
unfolding any
any_none zero p e k l = absurd (omega arith)
any_none (suc n) p e k l =
    let parts = or_parts (p n) (any n p) e in
    ⊎_elim (λ (same : k ≡ n). rw same parts.0) (λ other. any_none n p parts.1 k (omega arith)) (cases_eq k n)

pub none_any : (n : ℕ) (p : ℕ → Bool) → ((k : ℕ) → k < n → p k ≡ false) → any n p ≡ false
unfolding any
none_any zero p c = refl
none_any (suc n) p c = or_from (p n) (any n p) (c n (omega arith)) (none_any n p (λ k h. c k (omega arith)))

pub all_from : (n : ℕ) (p : ℕ → Bool) → ((k : ℕ) → k < n → p k ≡ true) → all n p ≡ true
unfolding all
all_from zero p c = refl
all_from (suc n) p c = and_from (p n) (all n p) (c n (omega arith)) (all_from n p (λ k h. c k (omega arith)))

pub all_at : (n : ℕ) (p : ℕ → Bool) → all n p ≡ true → (k : ℕ) → k < n → p k ≡ true
unfolding all
all_at zero p e k l = absurd (omega arith)
all_at (suc n) p e k l =
    let parts = and_parts (p n) (all n p) e in
    ⊎_elim (λ (same : k ≡ n). rw same parts.0) (λ other. all_at n p parts.1 k (omega arith)) (cases_eq k n)
