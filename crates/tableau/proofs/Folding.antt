-- What a fold keeps, and what one of its steps gives.
use Rattle.std.proofs.Common.{◌≡◌, ℕ, zero, suc, ◌<◌, ⊎_elim, arith}
use Rattle.std.proofs.lemmas.Bool.{cases_eq}
use Rattle.tableau.specs.Folds.{fold}

-- what every step keeps
pub fold_keeps : {A : Type 0} (P : A → Type 0) (n : ℕ) (f : ℕ → A → A) → ((k : ℕ) (a : A) → k < n → P a → P (f k a)) → (a : A) → P a → P (fold n f a)
unfolding fold
fold_keeps P zero f step a p = p
fold_keeps P (suc n) f step a p = step n (fold n f a) (omega arith) (fold_keeps P n f (λ k b l q. step k b (omega arith) q) a p)

-- step k gives P, and every step keeps it
pub fold_gives : {A : Type 0} (P : A → Type 0) (n k : ℕ) (f : ℕ → A → A) → k < n → ((a : A) → P (f k a)) → ((j : ℕ) (a : A) → j < n → P a → P (f j a)) → (a : A) → P (fold n f a)
unfolding fold
fold_gives P zero k f l gives keeps a = absurd (omega arith)
fold_gives P (suc n) k f l gives keeps a = ⊎_elim
    (λ (same : k ≡ n). rw same at (gives (fold n f a)))
    (λ other. keeps n (fold n f a) (omega arith) (fold_gives P n k f (omega arith) gives (λ j b m. keeps j b (omega arith)) a))
    (cases_eq k n)
