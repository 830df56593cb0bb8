-- A universal role over an order of n roles: one more role, n, above all others.
use Rattle.std.specs.Prelude.{◌≡◌, ℕ, ◌+◌, ◌<◌, ◌≤◌, min, Bool, true, cond, ◌&&◌, ◌||◌, ◌⊎◌, ◌==◌, nat_le, nat_lt}
use Rattle.std.proofs.Common.{sym, ◌∙◌, inl, inr, ⊎_elim, arith}
use Rattle.std.proofs.lemmas.Bool.{cases_lt, cases_Bool, and_parts, and_from, and_right, or_cases, cond-true, cond-false, ltb-true, lt-ltb, leb-true, le-leb, eqb-true, eq-eqb, ne_eqb}
use Rattle.meaning.specs.Orders.{Lawful, RoleBox}

-- the count with the universal role; over 64 roles there is no number for one, and nothing is added
abbrev pub universal_size : ℕ → ℕ
universal_size n = min (n + 1) 64

-- every role, n too, is below n, and n is below no other; else the relation is u
abbrev pub universal_under : ℕ → (ℕ → ℕ → Bool) → ℕ → ℕ → Bool
universal_under n u r s = cond (nat_lt n 64 && s == n) (nat_le r n) (u r s)

-- n is transitive
abbrev pub universal_passing : ℕ → (ℕ → Bool) → ℕ → Bool
universal_passing n passing r = r == n || passing r

pub universal_at : (n : ℕ) (u : ℕ → ℕ → Bool) (r s : ℕ) → n < 64 → s ≡ n → r ≤ n → universal_under n u r s ≡ true
universal_at n u r s few top l =
    cond-true (nat_lt n 64 && s == n) (nat_le r n) (u r s) (and_from (nat_lt n 64) (s == n) (lt-ltb n 64 few) (eq-eqb s n top)) ∙ le-leb r n l

pub universal_else : (n : ℕ) (u : ℕ → ℕ → Bool) (r s : ℕ) → s < n → universal_under n u r s ≡ u r s
universal_else n u r s l =
    cond-false (nat_lt n 64 && s == n) (nat_le r n) (u r s) (and_right (nat_lt n 64) (s == n) (ne_eqb s n (λ e. omega arith)))

-- what a yes says: s is the universal role, or it was said underneath
pub universal_cases : (n : ℕ) (u : ℕ → ℕ → Bool) (r s : ℕ) → universal_under n u r s ≡ true → ((n < 64) × (s ≡ n) × (r ≤ n)) ⊎ (u r s ≡ true)
universal_cases n u r s e = ⊎_elim
    (λ h.
    let p = and_parts (nat_lt n 64) (s == n) h in
    inl (ltb-true n 64 p.0, eqb-true s n p.1, leb-true r n (sym (cond-true (nat_lt n 64 && s == n) (nat_le r n) (u r s) h) ∙ e)))
    (λ h. inr (sym (cond-false (nat_lt n 64 && s == n) (nat_le r n) (u r s) h) ∙ e))
    (cases_Bool (nat_lt n 64 && s == n))

module _ (n : ℕ) (u : ℕ → ℕ → Bool) (law : Lawful n u) where
  universal_within : (r s : ℕ) → universal_under n u r s ≡ true → (r < universal_size n) × (s < universal_size n)
  universal_within r s e = ⊎_elim
      (λ p. let few = p.0 in let top = p.1 in let l = p.2 in (omega arith, omega arith))
      (λ h. let w = law.within r s h in let few = law.few in let a = w.0 in let b = w.1 in (omega arith, omega arith))
      (universal_cases n u r s e)

  universal_reflexive : (r : ℕ) → r < universal_size n → universal_under n u r r ≡ true
  universal_reflexive r l = ⊎_elim
      (λ below. universal_else n u r r below ∙ law.reflexive r below)
      (λ above. universal_at n u r r (omega arith) (omega arith) (omega arith))
      (cases_lt r n)

  universal_transitive : (r s t : ℕ) → universal_under n u r s ≡ true → universal_under n u s t ≡ true → universal_under n u r t ≡ true
  universal_transitive r s t e f = ⊎_elim
      (λ p. let w = (universal_within r s e).0 in universal_at n u r t p.0 p.1 (omega arith))
      (λ h.
      let w = law.within s t h in
      universal_else n u r t w.1 ∙ law.transitive r s t (sym (universal_else n u r s w.0) ∙ e) h)
      (universal_cases n u s t f)

  -- with the universal role it is an order again
  pub universal_law : Lawful (universal_size n) (universal_under n u)
  universal_law = record {
    few = omega arith;
    within = universal_within;
    reflexive = universal_reflexive;
    transitive = universal_transitive;
  }

-- where there is a number left for it, the transitive roles are roles again
pub universal_inside : (n : ℕ) (p : ℕ → Bool) → n < 64 → ((r : ℕ) → p r ≡ true → r < n) → (r : ℕ) → universal_passing n p r ≡ true → r < universal_size n
universal_inside n p few inside r e = ⊎_elim
    (λ h. let top = eqb-true r n h in omega arith)
    (λ h. let l = inside r h in omega arith)
    (or_cases (r == n) (p r) e)

-- what a hierarchy says with the universal role over it
abbrev pub with_universal : RoleBox → RoleBox
with_universal H = record {
  count = universal_size H.count;
  below = universal_under H.count H.below;
  transitive = universal_passing H.count H.transitive;
}

-- what the universal role adds to an order of n roles, with u and p underneath, in the words of the subject
pub record AddsUniversal (n : ℕ) (u : ℕ → ℕ → Bool) (p : ℕ → Bool) : Type 0 where
  -- there is one role more
  pub count : universal_size n ≡ n + 1
  -- every role is below it, itself included
  pub above : (r : ℕ) → r ≤ n → universal_under n u r n ≡ true
  -- it is below itself alone
  pub alone : (s : ℕ) → universal_under n u n s ≡ true → s ≡ n
  -- it is transitive
  pub passing : universal_passing n p n ≡ true
  -- all else is as underneath
  pub below : (r s : ℕ) → r < n → s < n → universal_under n u r s ≡ u r s
  pub transitive : (r : ℕ) → r < n → universal_passing n p r ≡ p r
