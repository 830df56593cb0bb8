-- A book without a bad record is sound.
use Rattle.std.proofs.Common.{◌≡◌, ℕ, ◌+◌, ◌*◌, ◌/◌, ◌%◌, ◌<◌, ◌≤◌, true, false, not, ◌&&◌, eqb, ltb, ◌⊎◌, List, length, get_or, Some, None, Option, sym, refl, subst, inl, inr, ⊎_elim, arith}
use Rattle.std.proofs.lemmas.List.{get_or_past, length-take-le}
use Rattle.std.proofs.lemmas.Bool.{and_parts, and_from, not-true, not-false, ltb-true, eq-eqb, cases_lt, cases_order, both_ways}
use Rattle.meaning.specs.Worlds.{Lower}
use Rattle.meaning.specs.Books.{Sound}
use Rattle.meaning.specs.declared.Concept.TheVariants.{Name, Restriction}
use Rattle.meaning.specs.declared.Quantifier.{Quantifier}
use Rattle.meaning.proofs.Tests.{any_from}
use Rattle.book.specs.Limits.{most_roles, most_entries, most_rules}
use Rattle.book.specs.declared.kind.Kind.{Kind}
use Rattle.book.specs.declared.kind.Kind.TheVariants as kind
use Rattle.book.specs.Kinds.{kind_of, is_name}
use Rattle.book.specs.Sections.{says, decode, concept_at}
use Rattle.book.specs.declared.Book.{Book}
use Rattle.book.specs.Views.{view}
use Rattle.book.specs.Records.{bad_role, unfit, bad_concept, named, fitting, faultless}
use Rattle.meaning.proofs.Firsts.{Clear, clear_from}

-- the records of each section are good
pub record Good (roles pairs concepts rules : List ℕ) : Type 0 where
  pub roles_good : Clear (length roles) (bad_role roles)
  pub pairs_good : Clear (length pairs / 2) (unfit (length roles) pairs)
  pub concepts_good : Clear (length concepts / 4) (bad_concept (length roles) concepts)
  pub rules_good : Clear (length rules / 2) (unfit (length concepts / 4) rules)

pub good : (roles pairs concepts rules : List ℕ) → faultless roles pairs concepts rules ≡ true → Good roles pairs concepts rules
unfolding faultless
good roles pairs concepts rules e =
    let n = length roles in
    let a = and_parts _ _ e in
    let b = and_parts _ _ a.1 in
    let c = and_parts _ _ b.1 in
    record {
      roles_good = clear_from n (bad_role roles) (not-true _ a.0);
      pairs_good = clear_from (length pairs / 2) (unfit n pairs) (not-true _ b.0);
      concepts_good = clear_from (length concepts / 4) (bad_concept n concepts) (not-true _ c.0);
      rules_good = clear_from (length rules / 2) (unfit (length concepts / 4) rules) (not-true _ c.1);
    }

module _ (n : ℕ) (concepts : List ℕ) (i b c : ℕ) where
  fitting_lower : (o : Option Kind) → fitting n concepts i o b c ≡ true → Lower i (decode o b c)
  fitting_lower (Some kind.Nothing) e = tt
  fitting_lower (Some kind.Everything) e = tt
  fitting_lower (Some kind.Name) e = tt
  fitting_lower (Some kind.Not) e = ltb-true b i (and_parts (ltb b i) (eqb c 0) e).0
  fitting_lower (Some kind.And) e = let h = and_parts (ltb b i) (ltb c i) e in (ltb-true b i h.0, ltb-true c i h.1)
  fitting_lower (Some kind.Or) e = let h = and_parts (ltb b i) (ltb c i) e in (ltb-true b i h.0, ltb-true c i h.1)
  fitting_lower (Some kind.Exists) e = ltb-true c i (and_parts (ltb b n) (ltb c i) e).1
  fitting_lower (Some kind.Forall) e = ltb-true c i (and_parts (ltb b n) (ltb c i) e).1
  fitting_lower (Some kind.NoneOf) e = ltb-true c i (and_parts (ltb b n) (ltb c i) e).1
  fitting_lower None e = tt

  -- a restriction is by a role of the book
  fitting_role : (q : Quantifier) (r a : ℕ) (o : Option Kind) → fitting n concepts i o b c ≡ true → decode o b c ≡ Restriction q r a → r < n
  fitting_role q r a (Some kind.Exists) e d = let same : b ≡ r = cc in omega (arith, ltb-true b n (and_parts (ltb b n) (ltb c i) e).0)
  fitting_role q r a (Some kind.Forall) e d = let same : b ≡ r = cc in omega (arith, ltb-true b n (and_parts (ltb b n) (ltb c i) e).0)
  fitting_role q r a (Some kind.NoneOf) e d = let same : b ≡ r = cc in omega (arith, ltb-true b n (and_parts (ltb b n) (ltb c i) e).0)
  fitting_role q r a o e d = absurd (let z : ◌≡◌ {A = ℕ} 0 1 = cc in omega arith)

  -- a name is one of 64, and had no entry before
  fitting_name : (m : ℕ) (o : Option Kind) → fitting n concepts i o b c ≡ true → decode o b c ≡ Name m → (is_name o ≡ true) × (b ≡ m) × (named concepts i b ≡ false) × (b < 64)
  fitting_name m (Some kind.Name) e d =
      let h = and_parts (ltb b 64) (eqb c 0 && not (named concepts i b)) e in
      (refl, cc, not-true (named concepts i b) (and_parts (eqb c 0) (not (named concepts i b)) h.1).1, ltb-true b 64 h.0)
  fitting_name m o e d = absurd (let z : ◌≡◌ {A = ℕ} 0 1 = cc in omega arith)

halves : (k : ℕ) → (2 * (k / 2) ≡ k) ⊎ (2 * (k / 2) + 1 ≡ k)
halves k = ⊎_elim (λ l. inl (omega arith)) (λ g. inr (omega arith)) (cases_lt (k % 2) 1)

module _ (roles pairs concepts rules : List ℕ) (G : Good roles pairs concepts rules) where
  -- the record of an entry fits
  fits : (i : ℕ) → i < length concepts / 4
      → fitting (length roles) concepts i (kind_of (get_or concepts (4 * i) 0)) (get_or concepts (4 * i + 1) 0) (get_or concepts (4 * i + 2) 0) ≡ true
  fits i l = (and_parts _ _ (not-false _ (G.concepts_good i l))).0

  lower : length concepts % 4 ≡ 0 → (i : ℕ) → Lower i (concept_at concepts i)
  unfolding kind_of
  lower whole i = ⊎_elim
      (λ l. fitting_lower (length roles) concepts i _ _ _ (fits i l))
      (λ g. subst (λ k. Lower i (decode (kind_of k) (get_or concepts (4 * i + 1) 0) (get_or concepts (4 * i + 2) 0))) (sym (get_or_past concepts (4 * i) 0 (omega arith))) tt)
      (cases_lt i (length concepts / 4))

  -- an entry is a name: its kind is that of names, its operand the name, no entry before has it, and it is one of 64
  name_at : (i m : ℕ) → i < length concepts / 4 → concept_at concepts i ≡ Name m
      → (is_name (kind_of (get_or concepts (4 * i) 0)) ≡ true) × (get_or concepts (4 * i + 1) 0 ≡ m) × (named concepts i m ≡ false) × (m < 64)
  name_at i m l e =
      let f = fitting_name (length roles) concepts i (get_or concepts (4 * i + 1) 0) (get_or concepts (4 * i + 2) 0) m (kind_of (get_or concepts (4 * i) 0)) (fits i l) e in
      (f.0, f.1, subst (λ b. named concepts i b ≡ false) f.1 f.2, omega (arith, f.1, f.3))

  never_after : (i j m : ℕ) → i < j → j < length concepts / 4 → concept_at concepts i ≡ Name m → concept_at concepts j ≡ Name m → ⊥
  unfolding named
  never_after i j m l u e f =
      let a = name_at i m (omega arith) e in
      let b = name_at j m u f in
      both_ways (named concepts j m) b.2
      (any_from j i _ l (and_from _ _ a.0 (eq-eqb _ m a.1)))

  names_once : (i j m : ℕ) → i < length concepts / 4 → j < length concepts / 4 → concept_at concepts i ≡ Name m → concept_at concepts j ≡ Name m → i ≡ j
  names_once i j m l u e f = ⊎_elim
      (λ same. same)
      (⊎_elim (λ less. absurd (never_after i j m less u e f)) (λ more. absurd (never_after j i m more l f e)))
      (cases_order i j)

  -- each byte of the pair section is a role of the book
  pub pairs_in : length pairs % 2 ≡ 0 → (k : ℕ) → k < length pairs → get_or pairs k 0 < length roles
  pairs_in whole k l =
      let h = and_parts _ _ (not-false _ (G.pairs_good (k / 2) (omega arith))) in
      ⊎_elim
      (λ (even : 2 * (k / 2) ≡ k). subst (λ j. get_or pairs j 0 < length roles) even (ltb-true _ _ h.0))
      (λ (odd : 2 * (k / 2) + 1 ≡ k). subst (λ j. get_or pairs j 0 < length roles) odd (ltb-true _ _ h.1))
      (halves k)

  pub sound : length concepts % 4 ≡ 0 → length roles ≤ most_roles → 4 ≤ length concepts → length concepts ≤ 4 * most_entries → length rules ≤ 2 * most_rules
      → Sound (says (record { roles = roles; pairs = pairs; concepts = concepts; rules = rules }))
  sound whole few some many short = record {
    few_roles = few;
    some_entries = omega arith;
    few_entries = omega arith;
    few_rules = omega arith;
    lower = lower whole;
    roles_in = λ i r a q l e. fitting_role (length roles) concepts i (get_or concepts (4 * i + 1) 0) (get_or concepts (4 * i + 2) 0) q r a (kind_of (get_or concepts (4 * i) 0)) (fits i l) e;
    names_in = λ i m l e. (name_at i m l e).3;
    names_once = names_once;
    premises_in = λ k l. ltb-true _ _ (and_parts _ _ (not-false _ (G.rules_good k l))).0;
    conclusions_in = λ k l. ltb-true _ _ (and_parts _ _ (not-false _ (G.rules_good k l))).1;
  }

-- what the code's book holds is sound
pub book_good : (b : Book) → Good (view b).roles (view b).pairs (view b).concepts (view b).rules
book_good b = good (view b).roles (view b).pairs (view b).concepts (view b).rules b.good

-- the bytes of each section
pub record Sizes (b : Book) : Type 0 where
  pub roles_are : length (view b).roles ≡ b.counts.roles
  pub pairs_are : length (view b).pairs ≡ 2 * b.counts.pairs
  pub concepts_are : length (view b).concepts ≡ 4 * b.counts.entries
  pub rules_are : length (view b).rules ≡ 2 * b.counts.rules

pub sizes : (b : Book) → Sizes b
sizes b = record {
  roles_are = length-take-le b.counts.roles b.roles (omega (arith, b.roles_long, b.few_roles));
  pairs_are = length-take-le (2 * b.counts.pairs) b.pairs (omega (arith, b.pairs_long, b.few_pairs));
  concepts_are = length-take-le (4 * b.counts.entries) b.concepts (omega (arith, b.concepts_long, b.few_entries));
  rules_are = length-take-le (2 * b.counts.rules) b.rules (omega (arith, b.rules_long, b.few_rules));
}

pub book_sound : (b : Book) → Sound (says (view b))
book_sound b =
    let s = sizes b in
    sound (view b).roles (view b).pairs (view b).concepts (view b).rules (book_good b)
    (omega (arith, s.concepts_are)) (omega (arith, s.roles_are, b.few_roles)) (omega (arith, s.concepts_are, b.some_entries))
    (omega (arith, s.concepts_are, b.few_entries)) (omega (arith, s.rules_are, b.few_rules))

pub book_pairs : (b : Book) → (k : ℕ) → k < length (view b).pairs → get_or (view b).pairs k 0 < length (view b).roles
book_pairs b =
    let s = sizes b in
    pairs_in (view b).roles (view b).pairs (view b).concepts (view b).rules (book_good b) (omega (arith, s.pairs_are))
