-- Tables that a closure filled.
use Rattle.std.proofs.Common.{◌≡◌, ℕ, zero, suc, ◌+◌, ◌<◌, ◌≤◌, List, get_or, subst, ⊎_elim, arith}
use Rattle.std.proofs.lemmas.Bool.{cases_eq}
use Rattle.std.specs.Array.{IsFromFnResult, IsFromFnResultFrom}
use Rattle.std.specs.Fn.{Called}
use denote.Param.Members.{Mut}

-- a table that a closure filled, where each call at k gives what P says of k, and leaves the closure as it was
module _ {F B : Type 0} {g : Mut F (ℕ × Unit {0}) B} {f : F} (ys : List B) (P : ℕ → B → Type 0) (d : B) (says : (k : ℕ) (y : B) (q : F) → Called g f (k, tt) y q → (q ≡ f) × P k y) where
  filled_from : (i n : ℕ) → IsFromFnResultFrom g f ys i n → (k : ℕ) → i ≤ k → k < i + n → P k (get_or ys k d)
  filled_from i zero e k l m = absurd (omega arith)
  filled_from i (suc n) e k l m =
      let now = says i e.1 e.0 e.3 in
      ⊎_elim
      (λ (same : k ≡ i). rw same (rw (e.2.1 d) now.1))
      (λ other. filled_from (i + 1) n (subst (λ q. IsFromFnResultFrom g q ys (i + 1) n) now.0 e.4) k (omega arith) (omega arith))
      (cases_eq k i)

  pub filled : (n : ℕ) → IsFromFnResult g f ys n → (k : ℕ) → k < n → P k (get_or ys k d)
  filled n r k l = filled_from 0 n r.each k (omega arith) (omega arith)
