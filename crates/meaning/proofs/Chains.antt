-- Chains are what `reach` tests.
use Rattle.std.proofs.Common.{◌≡◌, ℕ, zero, suc, ◌<◌, Bool, true, ◌&&◌, ◌⊎◌, inl, inr, ⊎_elim, arith}
use Rattle.std.proofs.lemmas.Bool.{cases_eq, and_parts, and_from, or_cases, or_left, or_right}
use Rattle.meaning.specs.Chains.{Chain, one, more, reach, On, ReachDecides}

-- a step is reached
pub reach_one : (n : ℕ) (R : ℕ → ℕ → Bool) (x y : ℕ) → R x y ≡ true → reach n R x y ≡ true
unfolding reach
reach_one zero R x y e = e
reach_one (suc n) R x y e = or_left (reach n R x y) (reach n R x n && reach n R n y) (reach_one n R x y e)

-- by way of n
reach_by : (n : ℕ) (R : ℕ → ℕ → Bool) (x z : ℕ) → reach n R x n ≡ true → reach n R n z ≡ true → reach (suc n) R x z ≡ true
unfolding reach
reach_by n R x z a b = or_right (reach n R x z) (reach n R x n && reach n R n z) (and_from (reach n R x n) (reach n R n z) a b)

-- without n as an inner place, or by way of it
reach_cases : (n : ℕ) (R : ℕ → ℕ → Bool) (x z : ℕ) → reach (suc n) R x z ≡ true
    → (reach n R x z ≡ true) ⊎ ((reach n R x n ≡ true) × (reach n R n z ≡ true))
unfolding reach
reach_cases n R x z e = ⊎_elim
    (λ a. inl a)
    (λ b. inr (and_parts (reach n R x n) (reach n R n z) b))
    (or_cases (reach n R x z) (reach n R x n && reach n R n z) e)

reach_more : (n : ℕ) (R : ℕ → ℕ → Bool) (x z : ℕ) → reach n R x z ≡ true → reach (suc n) R x z ≡ true
unfolding reach
reach_more n R x z e = or_left (reach n R x z) (reach n R x n && reach n R n z) e

to_last : (n : ℕ) (R : ℕ → ℕ → Bool) (x : ℕ) → reach (suc n) R x n ≡ true → reach n R x n ≡ true
to_last n R x e = ⊎_elim (λ a. a) (λ b. b.0) (reach_cases n R x n e)

from_last : (n : ℕ) (R : ℕ → ℕ → Bool) (z : ℕ) → reach (suc n) R n z ≡ true → reach n R n z ≡ true
from_last n R z e = ⊎_elim (λ a. a) (λ b. b.1) (reach_cases n R n z e)

-- two chains that meet below n make one
pub reach_join : (n : ℕ) (R : ℕ → ℕ → Bool) (x y z : ℕ) → y < n → reach n R x y ≡ true → reach n R y z ≡ true → reach n R x z ≡ true
reach_join zero R x y z l a b = absurd (omega arith)
reach_join (suc n) R x y z l a b = ⊎_elim
    (λ (last : y ≡ n). reach_by n R x z (to_last n R x (rw last at a)) (from_last n R z (rw last at b)))
    (λ other. join (λ u v p q. reach_join n R u y v (omega arith) p q))
    (cases_eq y n)
  where
    join : ((u v : ℕ) → reach n R u y ≡ true → reach n R y v ≡ true → reach n R u v ≡ true) → reach (suc n) R x z ≡ true
    join through = ⊎_elim
        (λ p. ⊎_elim
        (λ q. reach_more n R x z (through x z p q))
        (λ q. reach_by n R x z (through x n p q.0) q.1)
        (reach_cases n R y z b))
        (λ p. ⊎_elim
        (λ q. reach_by n R x z p.0 (through n z p.1 q))
        (λ q. reach_by n R x z p.0 q.1)
        (reach_cases n R y z b))
        (reach_cases n R x y a)

-- what holds of each step and is transitive holds of what is reached
pub reach_ind : (R : ℕ → ℕ → Bool) (Q : ℕ → ℕ → Type 0) → ((x y : ℕ) → R x y ≡ true → Q x y) → ((x y z : ℕ) → Q x y → Q y z → Q x z)
    → (n x y : ℕ) → reach n R x y ≡ true → Q x y
unfolding reach
reach_ind R Q step join zero x y e = step x y e
reach_ind R Q step join (suc n) x y e = ⊎_elim
    (λ a. reach_ind R Q step join n x y a)
    (λ b. join x n y (reach_ind R Q step join n x n b.0) (reach_ind R Q step join n n y b.1))
    (reach_cases n R x y e)

pub chain_join : (R : ℕ → ℕ → Bool) (x y z : ℕ) → Chain R x y → Chain R y z → Chain R x z
chain_join R _ _ z (one x y e) b = more x y z e b
chain_join R _ _ z (more x w y e a) b = more x w z e (chain_join R w y z a b)

-- what holds of each step and is transitive holds of the ends of a chain
pub chain_ind : (R : ℕ → ℕ → Bool) (Q : ℕ → ℕ → Type 0) → ((x y : ℕ) → R x y ≡ true → Q x y) → ((x y z : ℕ) → Q x y → Q y z → Q x z)
    → (x y : ℕ) → Chain R x y → Q x y
chain_ind R Q step join _ _ (one x y e) = step x y e
chain_ind R Q step join _ _ (more x w y e a) = join x w y (step x w e) (chain_ind R Q step join w y a)

-- a set that each step of R keeps has the end of a chain with its start
pub chain_keeps : (R : ℕ → ℕ → Bool) (P : ℕ → Type 0) → ((x y : ℕ) → R x y ≡ true → P x → P y) → (x y : ℕ) → Chain R x y → P x → P y
chain_keeps R P keep x y c = chain_ind R (λ u v. P u → P v) keep (λ u v w f g p. g (f p)) x y c

pub reach_sound : (n : ℕ) (R : ℕ → ℕ → Bool) (x y : ℕ) → reach n R x y ≡ true → Chain R x y
reach_sound n R x y e = reach_ind R (Chain R) (λ u v. one u v) (chain_join R) n x y e

pub reach_complete : (n : ℕ) (R : ℕ → ℕ → Bool) → On n R → (x y : ℕ) → Chain R x y → reach n R x y ≡ true
reach_complete n R inside _ _ (one x y e) = reach_one n R x y e
reach_complete n R inside _ _ (more x y z e c) =
    reach_join n R x y z (inside x y e).1 (reach_one n R x y e) (reach_complete n R inside y z c)

pub reach_decides : ReachDecides
reach_decides n R inside x y = (reach_sound n R x y, reach_complete n R inside x y)
