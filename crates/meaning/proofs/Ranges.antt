-- What a chain over the numbers below a bound answers, in the words of the subject: each number passes, or some does.
use Rattle.std.proofs.Common.{◌≡◌, ℕ, ◌+◌, ◌<◌, ◌≤◌, Bool, true, false, Decides, List, length, get_or, refl, sym, subst, ◌∙◌, arith}
use Rattle.std.proofs.lemmas.Bool.{true≢false}
use Rattle.std.proofs.lemmas.List.FromFn.{length-range_with_len, get_or-range_with_len}
use Rattle.std.specs.Bool.{MatchBool}
use Rattle.std.specs.List.{range_with_len, AllWithin, HoldsAt}
use Rattle.meaning.specs.Bounded.{any}
use Rattle.meaning.proofs.Tests.{any_from, none_any}

-- the numbers below n
abbrev Upto : ℕ → List ℕ
Upto n = range_with_len 0 n

element : (n x : ℕ) → x < n → get_or (Upto n) x 0 ≡ x
element n x l = get_or-range_with_len 0 n x 0 l ∙ omega arith

-- what `cases_from_all` says of such a chain, as an answer
pub all_below : (n : ℕ) (P : ℕ → Type 0) (r : Bool) → MatchBool r (AllWithin P (Upto n) 0 (length (Upto n))) ((k : ℕ) × (k < length (Upto n)) × HoldsAt (λ x. P x → ⊥) (Upto n) k) → Decides r ((x : ℕ) → x < n → P x)
all_below n P true m = (
  (λ _ x l. subst P (element n x l) (m x 0 (omega arith) (omega (arith, length-range_with_len 0 n)))),
  (λ _. refl),
)
all_below n P false m =
    let k : m.0 < n = omega (arith, m.1, length-range_with_len 0 n) in
    ((λ e. absurd (true≢false (sym e))), (λ each. absurd (m.2 0 (subst P (sym (element n m.0 k)) (each m.0 k)))))

-- what `cases_from_any` says of it, as the test `any`
pub any_below : (n : ℕ) (p : ℕ → Bool) (r : Bool) → MatchBool r ((k : ℕ) × (k < length (Upto n)) × HoldsAt (λ x. p x ≡ true) (Upto n) k) (AllWithin (λ x. p x ≡ false) (Upto n) 0 (length (Upto n))) → r ≡ any n p
any_below n p true m =
    let k : m.0 < n = omega (arith, m.1, length-range_with_len 0 n) in
    sym (any_from n m.0 p k (subst (λ x. p x ≡ true) (element n m.0 k) (m.2 0)))
any_below n p false m =
    sym (none_any n p (λ k l. subst (λ x. p x ≡ false) (element n k l) (m k 0 (omega arith) (omega (arith, length-range_with_len 0 n)))))
