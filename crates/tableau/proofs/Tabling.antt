-- The table of a book that opens is lawful over the hierarchy with its universal role.
use Rattle.std.proofs.Common.{◌≡◌, ℕ, ◌+◌, ◌-◌, ◌<◌, ◌≤◌, true, false, not, ◌&&◌, eqb, ltb, leb, ◌⊎◌, get_or, sym, refl, ap, ◌∙◌, subst, inl, inr, ⊎_elim, arith}
use Rattle.std.proofs.lemmas.Bool.{cases_Bool, and_parts, and_from, both_ways, not-true, not_from_false, lt-ltb, ltb-true, le-leb, leb-true, eqb-true, eq-eqb}
use Rattle.meaning.specs.Worlds.{Lower}
use Rattle.meaning.specs.Books.{Book}
use Rattle.meaning.specs.Orders.{RoleBox}
use Rattle.meaning.specs.Universal.{universal_size, universal_else, with_universal}
use Rattle.meaning.specs.declared.Concept.{Concept}
use Rattle.meaning.specs.declared.Concept.TheVariants.{Nothing, Everything, Name, Not, And, Or, Restriction}
use Rattle.meaning.specs.declared.Quantifier.{Quantifier}
use Rattle.meaning.specs.declared.Quantifier.TheVariants.{Forall}
use Rattle.tableau.specs.declared.Entry.TheVariants.{Plain}
use Rattle.tableau.specs.Entries.{LowerEntry}
use Rattle.tableau.specs.Working.{propagates_by, with_other_role, Propagated, propagated_list, nowhere, plain_of, book_entry, width_of, propagated_entry, entry_of, propagates_of, table_of}
use Rattle.tableau.specs.Promises.{Opens}
use Rattle.tableau.proofs.Laws.{Concepts, Ruling, Tabled}
use Rattle.tableau.proofs.Tests.{never}
use Rattle.tableau.proofs.Tables.{Place, placed_concept, placed_propagated, placed_rule, placed_book, placed_everywhere, placed_past, placed, Sprung, sprung, springs, universal_transitive, universal_top, transitive_cases, universal_below, universal_ordered, entry_concept, entry_propagated}

-- the parts of a propagated restriction are those of its origin
with_role_lower : (o i p : ℕ) (c : Concept) → o ≤ i → Lower o c → Lower i (with_other_role p c)
with_role_lower o i p Nothing l h = tt
with_role_lower o i p Everything l h = tt
with_role_lower o i p (Name n) l h = tt
with_role_lower o i p (Not a) l h = tt
with_role_lower o i p (And a b) l h = tt
with_role_lower o i p (Or a b) l h = tt
with_role_lower o i p (Restriction q r a) l h = omega arith

-- a restriction with another role is no name
with_role_name : {A : Type 0} (p n : ℕ) (c : Concept) → with_other_role p c ≡ Name n → A
with_role_name p n Nothing e = never cc
with_role_name p n Everything e = never cc
with_role_name p n (Name m) e = never cc
with_role_name p n (Not a) e = never cc
with_role_name p n (And a b) e = never cc
with_role_name p n (Or a b) e = never cc
with_role_name p n (Restriction q r a) e = never cc

-- a restriction with another role is one by that role
with_role_role : (p r a : ℕ) (q : Quantifier) (c : Concept) → with_other_role p c ≡ Restriction q r a → r ≡ p
with_role_role p r a q Nothing e = never cc
with_role_role p r a q Everything e = never cc
with_role_role p r a q (Name m) e = never cc
with_role_role p r a q (Not b) e = never cc
with_role_role p r a q (And b c) e = never cc
with_role_role p r a q (Or b c) e = never cc
with_role_role p r a q (Restriction k s b) e = cc

-- plain entries are equal where their concepts are
plain_same : (c d : Concept) → Plain c ≡ Plain d → c ≡ d
plain_same c d e = cc

-- what it is to be propagated, at a restriction
made_parts : (H : RoleBox) (q : Quantifier) (s a p : ℕ) → propagates_by H (Restriction q s a) p ≡ true → (H.transitive s ≡ false) × (H.transitive p ≡ true) × (H.below p s ≡ true)
made_parts H q s a p e =
    let b = and_parts (not (H.transitive s)) (H.transitive p && H.below p s) e in
    let c = and_parts (H.transitive p) (H.below p s) b.1 in
    (not-true (H.transitive s) b.0, c.0, c.1)

-- only a restriction is propagated, and by a transitive role
made_transitive : (H : RoleBox) (c : Concept) (p : ℕ) → propagates_by H c p ≡ true → H.transitive p ≡ true
made_transitive H Nothing p e = absurd (both_ways false refl e)
made_transitive H Everything p e = absurd (both_ways false refl e)
made_transitive H (Name n) p e = absurd (both_ways false refl e)
made_transitive H (Not a) p e = absurd (both_ways false refl e)
made_transitive H (And a b) p e = absurd (both_ways false refl e)
made_transitive H (Or a b) p e = absurd (both_ways false refl e)
made_transitive H (Restriction q s a) p e = (made_parts H q s a p e).1

-- the origin, as a function
abbrev origin_of : Propagated → ℕ
origin_of o = o.origin

module _ (H : RoleBox) (K : Book) (P : Opens H K) where
  -- the origin and role of a propagated restriction
  sprung_at : (i : ℕ) → K.entries ≤ i → i < plain_of H K → Sprung H K (get_or (propagated_list H K) (i - K.entries) nowhere)
  sprung_at i g l = sprung H K (i - K.entries) (omega arith)

  -- a rule's premise and conclusion are concept entries
  rule_parts : (i : ℕ) → plain_of H K ≤ i → i < book_entry H K → ((K.rule (i - plain_of H K)).premise < K.entries) × ((K.rule (i - plain_of H K)).conclusion < K.entries)
  rule_parts i g l = (P.sound.premises_in (i - plain_of H K) (omega arith), P.sound.conclusions_in (i - plain_of H K) (omega arith))

  -- an entry's parts are lower
  pub lower : (i : ℕ) → LowerEntry i (entry_of H K i)
  lower i = go (placed H K i)
    where
      go : Place H K i → LowerEntry i (entry_of H K i)
      go (placed_concept l e) = subst (LowerEntry i) (sym e) (P.sound.lower i)
      go (placed_propagated g l e) =
          let o = get_or (propagated_list H K) (i - K.entries) nowhere in
          let s = sprung_at i g l in
          subst (LowerEntry i) (sym e) (with_role_lower o.origin i o.role (K.concept o.origin) (omega (arith, s.entry_in)) (P.sound.lower o.origin))
      go (placed_rule g l e) =
          let p = rule_parts i g l in
          subst (LowerEntry i) (sym e) (omega (arith, p.0), omega (arith, p.1))
      go (placed_book s e) = subst (LowerEntry i) (sym e) (omega arith)
      go (placed_everywhere s e) = subst (LowerEntry i) (sym e) (omega arith)
      go (placed_past g e) = subst (LowerEntry i) (sym e) tt

  -- the entries below `plain` are concepts
  low : (i : ℕ) → i < plain_of H K → Concepts (entry_of H K i)
  low i m = go (placed H K i)
    where
      go : Place H K i → Concepts (entry_of H K i)
      go (placed_concept l e) = subst Concepts (sym e) tt
      go (placed_propagated g l e) = subst Concepts (sym e) tt
      go (placed_rule g l e) = absurd (omega arith)
      go (placed_book s e) = absurd (omega arith)
      go (placed_everywhere s e) = absurd (omega arith)
      go (placed_past g e) = absurd (omega arith)

  -- those from there on are rules, all rules and *everywhere*
  high : (i : ℕ) → i < width_of H K → plain_of H K ≤ i → Ruling (plain_of H K) (entry_of H K i)
  high i w m = go (placed H K i)
    where
      go : Place H K i → Ruling (plain_of H K) (entry_of H K i)
      go (placed_concept l e) = absurd (omega arith)
      go (placed_propagated g l e) = absurd (omega arith)
      go (placed_rule g l e) =
          let p = rule_parts i g l in
          subst (Ruling (plain_of H K)) (sym e) (omega (arith, p.0), omega (arith, p.1))
      go (placed_book s e) = subst (Ruling (plain_of H K)) (sym e) (omega arith)
      go (placed_everywhere s e) = subst (Ruling (plain_of H K)) (sym e) (H.count, book_entry H K, refl)
      go (placed_past g e) = absurd (omega arith)

  -- only a concept entry is a name
  name_place : (i n : ℕ) → entry_of H K i ≡ Plain (Name n) → (i < K.entries) × (K.concept i ≡ Name n)
  name_place i n f = go (placed H K i)
    where
      go : Place H K i → (i < K.entries) × (K.concept i ≡ Name n)
      go (placed_concept l e) = (l, plain_same (K.concept i) (Name n) (sym e ∙ f))
      go (placed_propagated g l e) =
          let o = get_or (propagated_list H K) (i - K.entries) nowhere in
          with_role_name o.role n (K.concept o.origin) (plain_same (with_other_role o.role (K.concept o.origin)) (Name n) (sym e ∙ f))
      go (placed_rule g l e) = never cc
      go (placed_book s e) = never cc
      go (placed_everywhere s e) = never cc
      go (placed_past g e) = never cc

  -- and so a name has one entry
  names : (i j n : ℕ) → i < width_of H K → j < width_of H K → entry_of H K i ≡ Plain (Name n) → entry_of H K j ≡ Plain (Name n) → i ≡ j
  names i j n l m e f =
      let a = name_place i n e in
      let b = name_place j n f in
      P.sound.names_once i j n a.0 b.0 a.1 b.1

  -- a restriction among the working entries is a concept entry, or by a transitive role: a propagated one, or *everywhere*
  restriction_place : (i r a : ℕ) (q : Quantifier) → entry_of H K i ≡ Plain (Restriction q r a)
      → ((i < K.entries) × (K.concept i ≡ Restriction q r a)) ⊎ ((with_universal H).transitive r ≡ true)
  restriction_place i r a q f = go (placed H K i)
    where
      go : Place H K i → ((i < K.entries) × (K.concept i ≡ Restriction q r a)) ⊎ ((with_universal H).transitive r ≡ true)
      go (placed_concept l e) = inl (l, plain_same (K.concept i) (Restriction q r a) (sym e ∙ f))
      go (placed_propagated g l e) =
          let o = get_or (propagated_list H K) (i - K.entries) nowhere in
          let c = K.concept o.origin in
          let same : r ≡ o.role = with_role_role o.role r a q c (plain_same (with_other_role o.role c) (Restriction q r a) (sym e ∙ f)) in
          inr (ap (with_universal H).transitive same ∙ universal_transitive H P.ordered P.few o.role (made_transitive H c o.role (sprung_at i g l).made))
      go (placed_rule g l e) = never cc
      go (placed_book b e) = never cc
      go (placed_everywhere b e) =
          let d : Plain (Restriction Forall H.count (book_entry H K)) ≡ Plain (Restriction q r a) = sym e ∙ f in
          let same : r ≡ H.count = cc in
          inr (ap (with_universal H).transitive same ∙ universal_top H P.ordered P.few)
      go (placed_past g e) = never cc

  -- so its role is one of the hierarchy
  roles : (i r a : ℕ) (q : Quantifier) → i < width_of H K → entry_of H K i ≡ Plain (Restriction q r a) → r < universal_size H.count
  roles i r a q w f = ⊎_elim
      (λ c. omega (arith, P.sound.roles_in i r a q c.0 c.1, P.roles, P.few))
      (λ on. (universal_ordered H P.ordered P.few).inside r on)
      (restriction_place i r a q f)

  -- what is said to be propagated is a restriction by a transitive role below
  propagated : (i j s a : ℕ) (q : Quantifier) → propagates_of H K i j ≡ true → entry_of H K i ≡ Plain (Restriction q s a)
      → (p : ℕ) × (entry_of H K j ≡ Plain (Restriction q p a)) × ((with_universal H).transitive p ≡ true) × ((with_universal H).below p s ≡ true)
  unfolding propagates_of
  propagated i j s a q e f =
      let o = get_or (propagated_list H K) (j - K.entries) nowhere in
      let x = and_parts (leb K.entries j) (ltb j (plain_of H K) && eqb o.origin i) e in
      let y = and_parts (ltb j (plain_of H K)) (eqb o.origin i) x.1 in
      let g = leb-true K.entries j x.0 in
      let l = ltb-true j (plain_of H K) y.0 in
      let same : o.origin ≡ i = eqb-true o.origin i y.1 in
      let z = sprung_at j g l in
      let there : i < K.entries = omega (arith, z.entry_in) in
      let c : K.concept o.origin ≡ Restriction q s a = ap K.concept same ∙ plain_same (K.concept i) (Restriction q s a) (sym (entry_concept H K i there) ∙ f) in
      let m = made_parts H q s a o.role (subst (λ k. propagates_by H k o.role ≡ true) c z.made) in (
        o.role,
        entry_propagated H K j g l ∙ ap (λ k. Plain (with_other_role o.role k)) c,
        universal_transitive H P.ordered P.few o.role m.1,
        universal_below H P.ordered P.few o.role s m.2,
      )

  -- a concept entry that is a restriction has its propagated ones
  spring : (i p s a : ℕ) (q : Quantifier) → i < K.entries → K.concept i ≡ Restriction q s a → (with_universal H).transitive s ≡ false
      → (with_universal H).transitive p ≡ true → (with_universal H).below p s ≡ true
      → (j : ℕ) × (j < width_of H K) × (propagates_of H K i j ≡ true) × (entry_of H K j ≡ Plain (Restriction q p a))
  unfolding propagates_of
  spring i p s a q l c plain passing under =
      let inside = P.sound.roles_in i s a q l c in
      let sn : s < H.count = omega (arith, P.roles) in
      let below : H.below p s ≡ true = sym (universal_else H.count H.below p s sn) ∙ under in
      let pn = (P.ordered.law.within p s below).0 in
      let passes : H.transitive p ≡ true = ⊎_elim (λ top. absurd (omega arith)) (λ h. h) (transitive_cases H P.ordered P.few p passing) in
      let plainly : H.transitive s ≡ false =
      ⊎_elim (λ h. absurd (both_ways ((with_universal H).transitive s) plain (universal_transitive H P.ordered P.few s h))) (λ h. h) (cases_Bool (H.transitive s)) in
      let made : propagates_by H (K.concept i) p ≡ true =
      ap (λ k. propagates_by H k p) c ∙ and_from (not (H.transitive s)) (H.transitive p && H.below p s) (not_from_false (H.transitive s) plainly) (and_from (H.transitive p) (H.below p s) passes below) in
      let m = springs H K i p l pn made in
      let k = m.place in
      let j = K.entries + k in
      let there = m.inside in
      let back : j - K.entries ≡ k = omega arith in
      let is : get_or (propagated_list H K) (j - K.entries) nowhere ≡ record { origin = i; role = p } = ap (λ t. get_or (propagated_list H K) t nowhere) back ∙ m.is in (
        j,
        omega arith,
        and_from (leb K.entries j) _ (le-leb K.entries j (omega arith))
            (and_from (ltb j (plain_of H K)) _ (lt-ltb j (plain_of H K) (omega arith)) (eq-eqb _ i (ap origin_of is))),
        entry_propagated H K j (omega arith) (omega arith) ∙ ap (propagated_entry K) is ∙ ap (λ t. Plain (with_other_role p t)) c,
      )

  -- and so has every restriction by a role that is not transitive: the others are by transitive ones
  propagating : (i p s a : ℕ) (q : Quantifier) → i < width_of H K → entry_of H K i ≡ Plain (Restriction q s a) → (with_universal H).transitive s ≡ false
      → (with_universal H).transitive p ≡ true → (with_universal H).below p s ≡ true
      → (j : ℕ) × (j < width_of H K) × (propagates_of H K i j ≡ true) × (entry_of H K j ≡ Plain (Restriction q p a))
  propagating i p s a q w f plain passing under = ⊎_elim
      (λ c. spring i p s a q c.0 c.1 plain passing under)
      (λ on. absurd (both_ways ((with_universal H).transitive s) plain on))
      (restriction_place i s a q f)

  -- all laws together
  pub tabled : Tabled (with_universal H) (table_of H K)
  tabled = record {
    lower = lower;
    low = low;
    high = high;
    fits = omega arith;
    names = names;
    roles = roles;
    propagated = propagated;
    propagating = propagating;
  }
