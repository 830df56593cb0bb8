-- The two books of the examples open.
use Rattle.std.proofs.Common.{◌≡◌, ℕ, zero, suc, ◌<◌, ◌≤◌, true, ◌&&◌, eqb, ltb, refl, ⊎_elim, arith}
use Rattle.std.proofs.lemmas.Bool.{cases_eq, and_parts, and_from, or_cases, or_left, or_right, eqb-true, eq-eqb, ltb-true, lt-ltb}
use Rattle.meaning.specs.Books.{Sound}
use Rattle.meaning.specs.Worlds.{Lower}
use Rattle.meaning.specs.declared.Concept.TheVariants.{Name, Restriction}
use Rattle.meaning.specs.declared.Quantifier.{Quantifier}
use Rattle.tableau.specs.Entries.{Ordered}
use Rattle.tableau.specs.Folds.{gather}
use Rattle.tableau.specs.Working.{propagated_list, width_of}
use Rattle.tableau.specs.Promises.{Opens}
use Rattle.tableau.specs.Examples.{roles_a, book_a, roles_b, book_b, ExamplesOpen}
use Rattle.tableau.proofs.Tests.{never}

-- below in the first hierarchy is "at most" among 0 and 1, used and made
below_a : (r s : ℕ) → roles_a.below r s ≡ true → (r ≤ s) × (s < 2)
below_a r s e = ⊎_elim
    (λ h. let p = and_parts (eqb r s) (ltb r 2) h in let same = eqb-true r s p.0 in let low = ltb-true r 2 p.1 in (omega arith, omega arith))
    (λ h. let p = and_parts (eqb r 0) (eqb s 1) h in let z = eqb-true r 0 p.0 in let o = eqb-true s 1 p.1 in (omega arith, omega arith))
    (or_cases (eqb r s && ltb r 2) (eqb r 0 && eqb s 1) e)

to_below_a : (r s : ℕ) → r ≤ s → s < 2 → roles_a.below r s ≡ true
to_below_a r s le low = ⊎_elim
    (λ (same : r ≡ s). or_left (eqb r s && ltb r 2) (eqb r 0 && eqb s 1) (and_from (eqb r s) (ltb r 2) (eq-eqb r s same) (lt-ltb r 2 (omega arith))))
    (λ other. or_right (eqb r s && ltb r 2) (eqb r 0 && eqb s 1) (and_from (eqb r 0) (eqb s 1) (eq-eqb r 0 (omega arith)) (eq-eqb s 1 (omega arith))))
    (cases_eq r s)

-- which is an order of two roles
ordered_a : Ordered roles_a
ordered_a = record {
  law = record {
    few = omega arith;
    within = λ r s e. let p = below_a r s e in (omega arith, omega arith);
    reflexive = λ r l. to_below_a r r (omega arith) l;
    transitive = λ r s t e f. let p = below_a r s e in let q = below_a s t f in to_below_a r t (omega arith) (omega arith);
  };
  inside = λ r e. omega (arith, eqb-true r 0 e);
}

-- the parts of each entry are lower
lower_a : (i : ℕ) → Lower i (book_a.concept i)
lower_a zero = tt
lower_a (suc zero) = omega arith
lower_a (suc (suc zero)) = omega arith
lower_a (suc (suc (suc zero))) = omega arith
lower_a (suc (suc (suc (suc zero)))) = omega arith
lower_a (suc (suc (suc (suc (suc zero))))) = (omega arith, omega arith)
lower_a (suc (suc (suc (suc (suc (suc i)))))) = tt

-- each restriction is by one of the two roles
roles_of_a : (i r a : ℕ) (q : Quantifier) → book_a.concept i ≡ Restriction q r a → r < 2
roles_of_a zero r a q e = never cc
roles_of_a (suc zero) r a q e = let z : r ≡ 0 = cc in omega arith
roles_of_a (suc (suc zero)) r a q e = let z : r ≡ 0 = cc in omega arith
roles_of_a (suc (suc (suc zero))) r a q e = never cc
roles_of_a (suc (suc (suc (suc zero)))) r a q e = let z : r ≡ 1 = cc in omega arith
roles_of_a (suc (suc (suc (suc (suc zero))))) r a q e = never cc
roles_of_a (suc (suc (suc (suc (suc (suc i)))))) r a q e = never cc

-- the only name is name 0, at entry 0
names_a : (i m : ℕ) → book_a.concept i ≡ Name m → (i ≡ 0) × (m ≡ 0)
names_a zero m e = (refl, cc)
names_a (suc zero) m e = never cc
names_a (suc (suc zero)) m e = never cc
names_a (suc (suc (suc zero))) m e = never cc
names_a (suc (suc (suc (suc zero)))) m e = never cc
names_a (suc (suc (suc (suc (suc zero))))) m e = never cc
names_a (suc (suc (suc (suc (suc (suc i)))))) m e = never cc

sound_a : Sound book_a
sound_a = record {
  few_roles = omega arith;
  some_entries = omega arith;
  few_entries = omega arith;
  few_rules = omega arith;
  lower = lower_a;
  roles_in = λ i r a q l e. roles_of_a i r a q e;
  names_in = λ i m l e. omega (arith, (names_a i m e).1);
  names_once = λ i j m l k e f. omega (arith, (names_a i m e).0, (names_a j m f).0);
  premises_in = λ k l. absurd (omega arith);
  conclusions_in = λ k l. absurd (omega arith);
}

-- the first book opens
opens_a : Opens roles_a book_a
unfolding gather propagated_list
opens_a = let w : width_of roles_a book_a ≡ 9 = refl in record { ordered = ordered_a; roles = refl; few = omega arith; sound = sound_a; narrow = omega arith }

-- and so does the second: it has one role, below itself
below_b : (r s : ℕ) → roles_b.below r s ≡ true → (r ≡ 0) × (s ≡ 0)
below_b r s e = let p = and_parts (eqb r 0) (eqb s 0) e in (eqb-true r 0 p.0, eqb-true s 0 p.1)

to_below_b : (r s : ℕ) → r ≡ 0 → s ≡ 0 → roles_b.below r s ≡ true
to_below_b r s e f = and_from (eqb r 0) (eqb s 0) (eq-eqb r 0 e) (eq-eqb s 0 f)

ordered_b : Ordered roles_b
ordered_b = record {
  law = record {
    few = omega arith;
    within = λ r s e. let p = below_b r s e in (omega arith, omega arith);
    reflexive = λ r l. to_below_b r r (omega arith) (omega arith);
    transitive = λ r s t e f. to_below_b r t (below_b r s e).0 (below_b s t f).1;
  };
  inside = λ r e. never cc;
}

-- a name and a restriction of it
lower_b : (i : ℕ) → Lower i (book_b.concept i)
lower_b zero = tt
lower_b (suc zero) = omega arith
lower_b (suc (suc i)) = tt

roles_of_b : (i r a : ℕ) (q : Quantifier) → book_b.concept i ≡ Restriction q r a → r ≡ 0
roles_of_b zero r a q e = never cc
roles_of_b (suc zero) r a q e = cc
roles_of_b (suc (suc i)) r a q e = never cc

names_b : (i m : ℕ) → book_b.concept i ≡ Name m → (i ≡ 0) × (m ≡ 0)
names_b zero m e = (refl, cc)
names_b (suc zero) m e = never cc
names_b (suc (suc i)) m e = never cc

sound_b : Sound book_b
sound_b = record {
  few_roles = omega arith;
  some_entries = omega arith;
  few_entries = omega arith;
  few_rules = omega arith;
  lower = lower_b;
  roles_in = λ i r a q l e. omega (arith, roles_of_b i r a q e);
  names_in = λ i m l e. omega (arith, (names_b i m e).1);
  names_once = λ i j m l k e f. omega (arith, (names_b i m e).0, (names_b j m f).0);
  premises_in = λ k l. omega arith;
  conclusions_in = λ k l. omega arith;
}

opens_b : Opens roles_b book_b
unfolding gather propagated_list
opens_b = let w : width_of roles_b book_b ≡ 5 = refl in record { ordered = ordered_b; roles = refl; few = omega arith; sound = sound_b; narrow = omega arith }

pub examples_open : ExamplesOpen
examples_open = record { a_opens = opens_a; b_opens = opens_b }
