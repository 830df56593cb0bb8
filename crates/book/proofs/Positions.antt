-- The place of the first item that passes a test, as `position` answers it, and bytes taken two by two or four by four.
use Rattle.std.proofs.Common.{◌≡◌, ℕ, zero, suc, ◌+◌, ◌*◌, ◌/◌, ◌<◌, Bool, true, false, List, [], length, get_or, drop, Some, None, Option, MatchOption, sym, ap, ◌∙◌, refl, arith}
use Rattle.std.specs.Bool.{MatchBool}
use Rattle.std.specs.List.{AllWithin, HoldsAt}
use Rattle.std.specs.Simd.{first_chunks}
use Rattle.std.proofs.lemmas.List.{get_or-take, get_or-drop}
use Rattle.meaning.specs.Bounded.{any, first}
use Rattle.meaning.proofs.Firsts.{first_none, first_some}
use Rattle.meaning.proofs.Tests.{any_from, none_any}

-- the items are n, and p of the item at k is q of k
module _ {X : Type 0} (xs : List X) (n : ℕ) (d : X) (p : X → Bool) (q : ℕ → Bool) (long : length xs ≡ n) (same : (k : ℕ) → k < n → p (get_or xs k d) ≡ q k) where
  pub first_where : (r : Option ℕ)
      → MatchOption r (AllWithin (λ x. p x ≡ false) xs 0 (length xs)) (λ i. (i < length xs) × HoldsAt (λ x. p x ≡ true) xs i × AllWithin (λ x. p x ≡ false) xs 0 i)
      → r ≡ first n q
  first_where None m = sym (first_none n q (λ k l. sym (same k l) ∙ m k d (omega arith) (omega (arith, l, long))))
  first_where (Some i) m =
      let in_n : i < n = omega (arith, m.0, long) in
      sym (first_some n i q in_n (λ k l. sym (same k (omega (arith, l, in_n))) ∙ m.2 k d (omega arith) l) (sym (same i in_n) ∙ m.1 d))

  pub any_where : (r : Bool)
      → MatchBool r ((k : ℕ) × (k < length xs) × HoldsAt (λ x. p x ≡ true) xs k) (AllWithin (λ x. p x ≡ false) xs 0 (length xs))
      → r ≡ any n q
  any_where true m =
      let in_n : m.0 < n = omega (arith, m.1, long) in
      sym (any_from n m.0 q in_n (sym (same m.0 in_n) ∙ m.2 d))
  any_where false m = sym (none_any n q (λ k l. sym (same k l) ∙ m k d (omega arith) (omega (arith, l, long))))

-- bytes taken w by w, where chunk k starts at `start k`
module _ (w : ℕ) (start : ℕ → ℕ) (none : start 0 ≡ 0) (more : (k : ℕ) → start (suc k) ≡ w + start k) where
  chunk_byte : (n k i j : ℕ) (bytes : List ℕ) → k < n → i < w → j ≡ start k + i → get_or (get_or (first_chunks w n bytes) k []) i 0 ≡ get_or bytes j 0
  chunk_byte zero k i j bytes l m e = absurd (omega arith)
  chunk_byte (suc n) zero i j bytes l m e = get_or-take w bytes i 0 m ∙ ap (λ x. get_or bytes x 0) (omega (arith, e, none))
  chunk_byte (suc n) (suc k) i j bytes l m e =
      chunk_byte n k i (start k + i) (drop w bytes) (omega arith) m refl ∙ get_or-drop w bytes (start k + i) 0
      ∙ ap (λ x. get_or bytes x 0) (omega (arith, e, more k))

pub two_at : (bytes : List ℕ) (records : List (List ℕ)) (k : ℕ) → records ≡ first_chunks 2 (length bytes / 2) bytes → k < length bytes / 2
    → (get_or (get_or records k []) 0 0 ≡ get_or bytes (2 * k) 0) × (get_or (get_or records k []) 1 0 ≡ get_or bytes (2 * k + 1) 0)
two_at bytes records k e l =
    let byte = chunk_byte 2 (λ k. 2 * k) (omega arith) (λ k. omega arith) (length bytes / 2) k in
    rw e (byte 0 (2 * k) bytes l (omega arith) (omega arith), byte 1 (2 * k + 1) bytes l (omega arith) refl)

pub four_at : (bytes : List ℕ) (records : List (List ℕ)) (k : ℕ) → records ≡ first_chunks 4 (length bytes / 4) bytes → k < length bytes / 4
    → (get_or (get_or records k []) 0 0 ≡ get_or bytes (4 * k) 0) × (get_or (get_or records k []) 1 0 ≡ get_or bytes (4 * k + 1) 0)
    × (get_or (get_or records k []) 2 0 ≡ get_or bytes (4 * k + 2) 0) × (get_or (get_or records k []) 3 0 ≡ get_or bytes (4 * k + 3) 0)
four_at bytes records k e l =
    let byte = chunk_byte 4 (λ k. 4 * k) (omega arith) (λ k. omega arith) (length bytes / 4) k in
    rw e (
      byte 0 (4 * k) bytes l (omega arith) (omega arith),
      byte 1 (4 * k + 1) bytes l (omega arith) refl,
      byte 2 (4 * k + 2) bytes l (omega arith) refl,
      byte 3 (4 * k + 3) bytes l (omega arith) refl,
    )
