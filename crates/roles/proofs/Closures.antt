-- The closure of told inclusions decides what chains of them say.
use Rattle.std.proofs.Common.{◌≡◌, ℕ, ◌+◌, ◌*◌, ◌/◌, ◌<◌, Bool, true, false, ◌&&◌, eqb, List, length, get_or, Decides, sym, refl, subst, inl, inr, ⊎_elim, arith}
use Rattle.std.proofs.lemmas.Bool.{and_parts, and_from, eqb-true, eq-eqb, cases_Bool}
use Rattle.std.proofs.lemmas.Bool.Decides.{same_from_decides, Decides-at}
use Rattle.words.specs.Sets.{has}
use Rattle.meaning.specs.Chains.{On}
use Rattle.meaning.proofs.Tests.{any_some, any_from}
use Rattle.meaning.proofs.Chains.{reach_sound, reach_complete, chain_ind}
use Rattle.roles.specs.Told.{told, Inside}
use Rattle.roles.specs.Closure.{closure, Leads, Below, ClosureDecides}
use Rattle.roles.specs.Laws.{closure_parts, closure_from}

-- a told inclusion is one of the pairs
pub told_some : (pairs : List ℕ) (r s : ℕ) → told pairs r s ≡ true
    → (k : ℕ) × (k < length pairs / 2) × (get_or pairs (2 * k) 0 ≡ r) × (get_or pairs (2 * k + 1) 0 ≡ s)
unfolding told
told_some pairs r s e =
    let a = any_some (length pairs / 2) (λ k. eqb (get_or pairs (2 * k) 0) r && eqb (get_or pairs (2 * k + 1) 0) s) e in
    let b = and_parts (eqb (get_or pairs (2 * a.0) 0) r) (eqb (get_or pairs (2 * a.0 + 1) 0) s) a.2 in
    (a.0, a.1, eqb-true (get_or pairs (2 * a.0) 0) r b.0, eqb-true (get_or pairs (2 * a.0 + 1) 0) s b.1)

-- each pair is a told inclusion
pub told_at : (pairs : List ℕ) (k : ℕ) → k < length pairs / 2 → told pairs (get_or pairs (2 * k) 0) (get_or pairs (2 * k + 1) 0) ≡ true
unfolding told
told_at pairs k l =
    any_from (length pairs / 2) k
    (λ j. eqb (get_or pairs (2 * j) 0) (get_or pairs (2 * k) 0) && eqb (get_or pairs (2 * j + 1) 0) (get_or pairs (2 * k + 1) 0)) l
    (and_from (eqb (get_or pairs (2 * k) 0) (get_or pairs (2 * k) 0)) (eqb (get_or pairs (2 * k + 1) 0) (get_or pairs (2 * k + 1) 0))
    (eq-eqb (get_or pairs (2 * k) 0) (get_or pairs (2 * k) 0) refl) (eq-eqb (get_or pairs (2 * k + 1) 0) (get_or pairs (2 * k + 1) 0) refl))

-- pairs of roles tell of roles alone
pub told_on : (n : ℕ) (pairs : List ℕ) → Inside n pairs → On n (told pairs)
told_on n pairs inside r s e =
    let a = told_some pairs r s e in
    (subst (λ j. j < n) a.2 (inside (2 * a.0) (omega (arith, a.1))), subst (λ j. j < n) a.3 (inside (2 * a.0 + 1) (omega (arith, a.1))))

pub closure_decides : ClosureDecides
closure_decides n pairs inside r s = (to, from)
  where
    to : closure n pairs r s ≡ true → Below n pairs r s
    to e =
        let c = closure_parts n pairs r s e in
        (c.lower, c.upper, ⊎_elim (λ h. inl h) (λ h. inr (reach_sound n (told pairs) r s h)) c.leads)

    from : Below n pairs r s → closure n pairs r s ≡ true
    from b =
        closure_from n pairs r s (record {
          lower = b.0;
          upper = b.1;
          leads = ⊎_elim (λ h. inl h) (λ h. inr (reach_complete n (told pairs) (told_on n pairs inside) r s h)) b.2;
        })

-- chains from a role lead to roles
pub leads_on : (n : ℕ) (pairs : List ℕ) → Inside n pairs → (r s : ℕ) → r < n → Leads pairs r s → s < n
leads_on n pairs inside r s l h = ⊎_elim
    (λ (e : r ≡ s). rw e at l)
    (λ c. chain_ind (told pairs) (λ x y. y < n) (λ x y e. (told_on n pairs inside x y e).1) (λ x y z p q. q) r s c)
    h

-- the set of what is led to is a row of the closure
pub row_is : (n : ℕ) (pairs : List ℕ) → Inside n pairs → (r w : ℕ) → r < n → ((s : ℕ) → Decides (has w s) (Leads pairs r s))
    → (s : ℕ) → has w s ≡ closure n pairs r s
row_is n pairs inside r w l d s =
    same_from_decides {P = Below n pairs r s} (has w s) (closure n pairs r s)
    (λ e. let h = (d s).0 e in (l, leads_on n pairs inside r s l h, h), λ b. (d s).1 b.2)
    (closure_decides n pairs inside r s)

-- out of range the answer is no
pub closure_out : (n : ℕ) (pairs : List ℕ) (r s : ℕ) → (r < n → s < n → ⊥) → false ≡ closure n pairs r s
closure_out n pairs r s out = ⊎_elim
    (λ e. let c = closure_parts n pairs r s e in absurd (out c.lower c.upper))
    (λ e. sym e)
    (cases_Bool (closure n pairs r s))

-- the answer of the closure, in words
pub closure_told : (n : ℕ) (pairs : List ℕ) → Inside n pairs → (r s : ℕ) (b : Bool) → b ≡ closure n pairs r s → Decides b (Below n pairs r s)
closure_told n pairs inside r s b e = Decides-at b (closure n pairs r s) e (closure_decides n pairs inside r s)
