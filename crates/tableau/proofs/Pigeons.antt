-- Different numbers below c are at most c.
use Rattle.std.proofs.Common.{◌≡◌, ℕ, zero, suc, ◌<◌, ◌≤◌, cond, eqb, ◌⊎◌, inl, inr, ⊎_elim, arith}
use Rattle.std.proofs.lemmas.Bool.{cases_Bool, eqb-true, eqb-false, cond-true, cond-false}

-- where a number is c, the last one takes its place
replaced : (c m : ℕ) (f : ℕ → ℕ) → ℕ → ℕ
replaced c m f i = cond (eqb (f i) c) (f m) (f i)

-- what it is then
replaced_is : (c m : ℕ) (f : ℕ → ℕ) (i : ℕ) → ((f i ≡ c) × (replaced c m f i ≡ f m)) ⊎ ((f i ≡ c → ⊥) × (replaced c m f i ≡ f i))
unfolding replaced
replaced_is c m f i = ⊎_elim
    (λ h. inl (eqb-true (f i) c h, cond-true (eqb (f i) c) (f m) (f i) h))
    (λ h. inr (eqb-false (f i) c h, cond-false (eqb (f i) c) (f m) (f i) h))
    (cases_Bool (eqb (f i) c))

-- one number less below one bound less
pub pigeons : (c m : ℕ) (f : ℕ → ℕ) → ((i : ℕ) → i < m → f i < c) → ((i j : ℕ) → i < j → j < m → f i ≡ f j → ⊥) → m ≤ c
pigeons c zero f below apart = omega arith
pigeons zero (suc m) f below apart = absurd (omega (arith, below 0 (omega arith)))
pigeons (suc c) (suc m) f below apart =
    let le = pigeons c m (replaced c m f) fewer distinct in omega arith
  where
    fewer : (i : ℕ) → i < m → replaced c m f i < c
    fewer i l = omega (arith, below i (omega arith), below m (omega arith), apart i m l (omega arith), replaced_is c m f i)

    distinct : (i j : ℕ) → i < j → j < m → replaced c m f i ≡ replaced c m f j → ⊥
    distinct i j l k e = omega
        (arith, apart i j l (omega arith), apart i m (omega arith) (omega arith), apart j m (omega arith) (omega arith), replaced_is c m f i, replaced_is c m f j)
