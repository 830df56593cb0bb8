-- Sets and rows that are worked out from a relation, one question after another.
use Rattle.std.proofs.Common.{◌≡◌, ℕ, ◌<◌, Bool, true, false, ◌&&◌, ltb, List, length, sym, ap, ◌∙◌, ⊎_elim, arith}
use Rattle.std.proofs.lemmas.Bool.{cases_lt, cases_Bool, and_right, lt-ltb}
use Rattle.std.proofs.lemmas.List.{get_or_past}
use Rattle.words.specs.Sets.{has}
use Rattle.words.proofs.Words.{has_none}
use Rattle.meaning.specs.Orders.{Lawful}
use Rattle.roles.specs.Rows.{related}

-- a test that holds of numbers below n alone, asked of those below n
pub bounded : (n : ℕ) (p : ℕ → Bool) → ((j : ℕ) → p j ≡ true → j < n) → (j : ℕ) → (ltb j n && p j) ≡ p j
bounded n p inside j = ⊎_elim
    (λ e. ap (λ b. b && p j) (lt-ltb j n (inside j e)))
    (λ e. and_right (ltb j n) (p j) e ∙ sym e)
    (cases_Bool (p j))

-- out of range a relation with the law says no
pub lawful_out : (n : ℕ) (u : ℕ → ℕ → Bool) → Lawful n u → (r s : ℕ) → (r < n → s < n → ⊥) → false ≡ u r s
lawful_out n u law r s out = ⊎_elim
    (λ e. let w = law.within r s e in absurd (out w.0 w.1))
    (λ e. sym e)
    (cases_Bool (u r s))

-- rows that are right where there are rows are right
pub rows_all : (n : ℕ) (u : ℕ → ℕ → Bool) (rows : List ℕ) → length rows ≡ 64 → Lawful n u
    → ((r s : ℕ) → r < 64 → related rows r s ≡ u r s) → (r s : ℕ) → related rows r s ≡ u r s
rows_all n u rows long law each r s = ⊎_elim
    (λ l. each r s l)
    (λ g. ap (λ w. has w s) (get_or_past rows r 0 (omega arith)) ∙ has_none s ∙ lawful_out n u law r s (λ l m. let few = law.few in omega arith))
    (cases_lt r 64)

-- the law of a relation is that of its like
pub lawful_like : (n : ℕ) (u v : ℕ → ℕ → Bool) → ((r s : ℕ) → u r s ≡ v r s) → Lawful n v → Lawful n u
lawful_like n u v same law = record {
  few = law.few;
  within = λ r s e. law.within r s (sym (same r s) ∙ e);
  reflexive = λ r l. same r r ∙ law.reflexive r l;
  transitive = λ r s t e f. same r t ∙ law.transitive r s t (sym (same r s) ∙ e) (sym (same s t) ∙ f);
}
