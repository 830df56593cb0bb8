-- The proofs that the hierarchies of a book give of the laws of hierarchies. They stand here since a ghost member may cite no file of
-- proofs/ of its own crate; nothing that is promised is defined here.
use Rattle.std.specs.Prelude.{◌≡◌, ℕ, ◌<◌, ◌≤◌, Bool, true, ◌&&◌, ◌||◌, ◌⊎◌, List, length, ◌==◌, nat_lt, refl}
use Rattle.std.proofs.Common.{sym, ap, ◌∙◌, inl, inr, ⊎_elim, arith}
use Rattle.std.proofs.Math.Bool.{Bool-set}
use Rattle.std.proofs.Math.Logic.{∥∥₁_elim}
use Rattle.std.proofs.lemmas.List.{get_or_past}
use Rattle.std.proofs.lemmas.Bool.{cases_lt, and_parts, and_from, or_cases, or_left, or_right, ltb-true, lt-ltb, leb-true, le-leb, eqb-true, eq-eqb}
use Rattle.meaning.specs.Chains.{reach}
use Rattle.meaning.specs.Orders.{Lawful}
use Rattle.meaning.proofs.Chains.{reach_join}
use Rattle.roles.specs.Told.{told, marked}
use Rattle.roles.specs.Closure.{closure}

-- what the test says, part by part
pub record Closed (n : ℕ) (pairs : List ℕ) (r s : ℕ) : Type 0 where
  pub lower : r < n
  pub upper : s < n
  pub leads : (r ≡ s) ⊎ (reach n (told pairs) r s ≡ true)

pub closure_parts : (n : ℕ) (pairs : List ℕ) (r s : ℕ) → closure n pairs r s ≡ true → Closed n pairs r s
unfolding closure
closure_parts n pairs r s e =
    let a = and_parts (nat_lt r n) (nat_lt s n && (r == s || reach n (told pairs) r s)) e in
    let b = and_parts (nat_lt s n) (r == s || reach n (told pairs) r s) a.1 in
    record {
      lower = ltb-true r n a.0;
      upper = ltb-true s n b.0;
      leads = ⊎_elim (λ h. inl (eqb-true r s h)) (λ h. inr h) (or_cases (r == s) (reach n (told pairs) r s) b.1);
    }

pub closure_from : (n : ℕ) (pairs : List ℕ) (r s : ℕ) → Closed n pairs r s → closure n pairs r s ≡ true
unfolding closure
closure_from n pairs r s c =
    and_from (nat_lt r n) (nat_lt s n && (r == s || reach n (told pairs) r s)) (lt-ltb r n c.lower)
    (and_from (nat_lt s n) (r == s || reach n (told pairs) r s) (lt-ltb s n c.upper)
    (⊎_elim
    (λ h. or_left (r == s) (reach n (told pairs) r s) (eq-eqb r s h))
    (λ h. or_right (r == s) (reach n (told pairs) r s) h)
    c.leads))

leads_join : (n : ℕ) (pairs : List ℕ) (r s t : ℕ) → Closed n pairs r s → Closed n pairs s t → (r ≡ t) ⊎ (reach n (told pairs) r t ≡ true)
leads_join n pairs r s t a b = ⊎_elim
    (λ (e : r ≡ s). rw e b.leads)
    (λ p. ⊎_elim
    (λ (f : s ≡ t). inr (rw f at p))
    (λ q. inr (reach_join n (told pairs) r s t a.upper p q))
    b.leads)
    a.leads

-- the closure is an order, whatever is told
pub closure_law : (n : ℕ) (pairs : List ℕ) → n ≤ 64 → Lawful n (closure n pairs)
closure_law n pairs few = record {
  few = few;
  within = λ r s e. let c = closure_parts n pairs r s e in (c.lower, c.upper);
  reflexive = λ r l. closure_from n pairs r r (record { lower = l; upper = l; leads = inl refl });
  transitive = λ r s t e f.
      let a = closure_parts n pairs r s e in
      let b = closure_parts n pairs s t f in
      closure_from n pairs r t (record { lower = a.lower; upper = b.upper; leads = leads_join n pairs r s t a b });
}

-- past the roles there is no mark
pub marked_inside : (roles : List ℕ) (r : ℕ) → marked roles r ≡ true → r < length roles
marked_inside roles r e = ⊎_elim
    (λ l. l)
    (λ g. absurd (let z = eqb-true 0 1 (sym (ap (λ k. k == 1) (get_or_past roles r 0 g)) ∙ e) in omega arith))
    (cases_lt r (length roles))

-- the law holds where it is known to hold
pub lawful_known : (n : ℕ) (under : ℕ → ℕ → Bool) → ∥ Lawful n under ∥₁ → Lawful n under
lawful_known n under known = record {
  few = leb-true n 64 (∥∥₁_elim known (Bool-set _ _) (λ law. le-leb n 64 law.few));
  within = λ r s e. (
    ltb-true r n (∥∥₁_elim known (Bool-set _ _) (λ law. lt-ltb r n (law.within r s e).0)),
    ltb-true s n (∥∥₁_elim known (Bool-set _ _) (λ law. lt-ltb s n (law.within r s e).1)),
  );
  reflexive = λ r l. ∥∥₁_elim known (Bool-set _ _) (λ law. law.reflexive r l);
  transitive = λ r s t e f. ∥∥₁_elim known (Bool-set _ _) (λ law. law.transitive r s t e f);
}
