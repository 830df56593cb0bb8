-- What is built is a plan of the book under the hierarchy.
use Rattle.std.proofs.Common.{◌≡◌, ℕ, ◌+◌, ◌<◌, ◌≤◌, Bool, true, false, cond, ◌&&◌, eqb, ltb, leb, List, take, sym, refl, ap, ◌∙◌, subst, ⊎_elim, arith, length-take}
use Rattle.std.proofs.lemmas.List.{get_or_past, get_or-take}
use Rattle.std.proofs.lemmas.Bool.{cases_lt, and_parts, and_from, cond-true, lt-ltb, ltb-true, le-leb, leb-true, eqb-true, eq-eqb}
use Rattle.denial.specs.Denials.{Answer, granted, denied}
use Rattle.denial.specs.declared.Report.{Report}
use Rattle.meaning.specs.Books.{Book, Sound}
use Rattle.meaning.specs.Orders.{Lawful, RoleBox, role_box}
use Rattle.meaning.specs.Universal.{with_universal}
use Rattle.meaning.specs.declared.Concept.TheVariants.{Nothing, Everything, Name, Not, And, Or, Restriction}
use Rattle.meaning.specs.declared.Quantifier.{Quantifier}
use Rattle.meaning.proofs.Tests.{all_from}
use Rattle.tableau.specs.declared.Entry.{Entry}
use Rattle.tableau.specs.declared.Entry.TheVariants.{Plain, Inclusion, Inclusions}
use Rattle.tableau.specs.Entries.{LowerEntry}
use Rattle.tableau.specs.Seeds.{role_of}
use Rattle.tableau.specs.Working.{width_of, entry_of, table_of}
use Rattle.tableau.specs.Promises.{Opens}
use Rattle.tableau.proofs.Tables.{entry_past}
use Rattle.tableau.proofs.Tabling.{lower, tabled}
use Rattle.plan.specs.declared.Plan.{Plan}
use Rattle.plan.specs.Plans.{listed_entry, listed_role, is_lower, lowered}
use Rattle.plan.specs.Meanings.{table_in, box_in}
use Rattle.plan.specs.Building.{Planned, verdict, VerdictOpens}

lower_test : (i : ℕ) (e : Entry) → LowerEntry i e → is_lower i e ≡ true
lower_test i (Plain Nothing) h = refl
lower_test i (Plain Everything) h = refl
lower_test i (Plain (Name n)) h = refl
lower_test i (Plain (Not a)) h = lt-ltb a i h
lower_test i (Plain (And a b)) h = and_from (ltb a i) (ltb b i) (lt-ltb a i h.0) (lt-ltb b i h.1)
lower_test i (Plain (Or a b)) h = and_from (ltb a i) (ltb b i) (lt-ltb a i h.0) (lt-ltb b i h.1)
lower_test i (Plain (Restriction q r a)) h = lt-ltb a i h
lower_test i (Inclusion c d) h = and_from (ltb c i) (ltb d i) (lt-ltb c i h.0) (lt-ltb d i h.1)
lower_test i (Inclusions lo n) h = le-leb (lo + n) i h

-- only a restriction has a role
role_under : (e : Entry) → ((q : Quantifier) (r a : ℕ) → e ≡ Plain (Restriction q r a) → r < 64) → role_of e < 64
role_under (Plain Nothing) h = omega arith
role_under (Plain Everything) h = omega arith
role_under (Plain (Name n)) h = omega arith
role_under (Plain (Not a)) h = omega arith
role_under (Plain (And a b)) h = omega arith
role_under (Plain (Or a b)) h = omega arith
role_under (Plain (Restriction q r a)) h = h q r a refl
role_under (Inclusion c d) h = omega arith
role_under (Inclusions lo n) h = omega arith

-- among the first entries too each has a small role
pub roles_first : (n j : ℕ) (es : List Entry) → ((i : ℕ) → listed_role es i < 64) → listed_role (take n es) j < 64
roles_first n j es small = ⊎_elim
    (λ l. subst (λ e. role_of e < 64) (sym (get_or-take n es j (Plain Nothing) l)) (small j))
    (λ g. subst (λ e. role_of e < 64) (sym (get_or_past (take n es) j (Plain Nothing) (omega (arith, length-take n es)))) (omega arith))
    (cases_lt j n)

-- among the first entries too each has lower parts
pub lower_first : (n j : ℕ) (es : List Entry) → ((i : ℕ) → is_lower i (listed_entry es i) ≡ true) → is_lower j (listed_entry (take n es) j) ≡ true
lower_first n j es low = ⊎_elim
    (λ l. ap (is_lower j) (get_or-take n es j (Plain Nothing) l) ∙ low j)
    (λ g. ap (is_lower j) (get_or_past (take n es) j (Plain Nothing) (omega (arith, length-take n es))))
    (cases_lt j n)

module _ (H : RoleBox) (K : Book) (P : Opens H K) where
  role_small : (i : ℕ) → role_of (entry_of H K i) < 64
  role_small i = ⊎_elim
      (λ l. role_under (entry_of H K i) (λ q r a e. omega (arith, (tabled H K P).roles i r a q l e)))
      (λ g. subst (λ e. role_of e < 64) (sym (entry_past H K i g)) (omega arith))
      (cases_lt i (width_of H K))

  module _ (es : List Entry) (same : (i : ℕ) → listed_entry es i ≡ entry_of H K i) where
    pub roles_in : (i : ℕ) → listed_role es i < 64
    roles_in i = subst (λ e. role_of e < 64) (sym (same i)) (role_small i)

    pub lower_at : (i : ℕ) → is_lower i (listed_entry es i) ≡ true
    lower_at i = lower_test i (listed_entry es i) (subst (LowerEntry i) (sym (same i)) (lower H K P i))

    pub all_lowered : lowered es ≡ true
    unfolding lowered
    all_lowered = all_from 64 (λ i. is_lower i (listed_entry es i)) (λ i l. lower_at i)

-- what the tests make sure of
pub opens_from : (n : ℕ) (under : ℕ → ℕ → Bool) (passing : ℕ → Bool) (K : Book) → Lawful n under → ((r : ℕ) → passing r ≡ true → r < n) → Sound K → n ≡ K.roles → n < 64
    → width_of (role_box n under passing) K ≤ 64 → Opens (role_box n under passing) K
opens_from n under passing K law inside sound roles few narrow = record {
  ordered = record { law = law; inside = inside };
  roles = roles;
  few = few;
  sound = sound;
  narrow = narrow;
}

-- the universal layer was granted: there is a number left, and it is over the hierarchy that was lent
pub layer_granted : {A : Type 0} (n : ℕ) (x y : A) (r : Report) → granted x ≡ cond (ltb n 64) (granted y) (denied r) → (n < 64) × (x ≡ y)
layer_granted {A} n x y r e = go (ltb n 64) refl e
  where
    go : (b : Bool) → ltb n 64 ≡ b → granted x ≡ cond b (granted y) (denied r) → (n < 64) × (x ≡ y)
    go true t f = (ltb-true n 64 t, cc)
    go false t f = absurd (let z : ◌≡◌ {A = ℕ} 0 1 = cc in omega arith)

-- what holds of a result for one hierarchy holds of it for its like
pub answer_like : (G H : RoleBox) (K : Book) (a : Answer (Unit {0})) → G ≡ H → a ≡ verdict G K → a ≡ verdict H K
answer_like G H K a same e = e ∙ ap (λ B. verdict B K) same

-- the table and the hierarchy of a plan, as values
pub planned_table : (H : RoleBox) (K : Book) (p : Plan) → Planned H K p → table_in p ≡ table_of H K
planned_table H K p h = λ i. record { width = h.width_is i; plain = h.plain_is i; entry = λ k. h.entry_is k i; propagates = λ k j. h.propagated_is k j i }

pub planned_box : (H : RoleBox) (K : Book) (p : Plan) → Planned H K p → box_in p ≡ with_universal H
planned_box H K p h = λ i. record { count = h.count_is i; below = λ r s. h.row_is r s i; transitive = λ r. h.marks_are r i }

-- two tests in a row that let all pass were both passed
passed : (b c : Bool) (r t : Report) → ◌≡◌ {A = Answer (Unit {0})} (cond b (cond c (granted tt) (denied r)) (denied t)) (granted tt) → (b ≡ true) × (c ≡ true)
passed true true r t e = (refl, refl)
passed true false r t e = absurd (let z : ◌≡◌ {A = ℕ} 0 1 = cc in omega arith)
passed false c r t e = absurd (let z : ◌≡◌ {A = ℕ} 0 1 = cc in omega arith)

-- the verdict's two tests are the hypotheses that a lawful hierarchy and a sound book leave open
pub verdict_opens : VerdictOpens
verdict_opens H K ordered sound = (to, from)
  where
    to : verdict H K ≡ granted tt → Opens H K
    to e =
        let p = passed (eqb H.count K.roles && ltb H.count 64) (leb (width_of H K) 64) _ _ e in
        let q = and_parts (eqb H.count K.roles) (ltb H.count 64) p.0 in record {
          ordered = ordered;
          roles = eqb-true H.count K.roles q.0;
          few = ltb-true H.count 64 q.1;
          sound = sound;
          narrow = leb-true (width_of H K) 64 p.1;
        }

    from : Opens H K → verdict H K ≡ granted tt
    from P =
        cond-true _ _ _ (and_from (eqb H.count K.roles) (ltb H.count 64) (eq-eqb H.count K.roles P.roles) (lt-ltb H.count 64 P.few))
        ∙ cond-true _ _ _ (le-leb (width_of H K) 64 P.narrow)
