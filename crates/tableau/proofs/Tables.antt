-- The universal role over a hierarchy, the entries of the table by their place, and the root seed.
use Rattle.std.proofs.Common.{◌≡◌, ℕ, zero, suc, ◌+◌, ◌-◌, ◌<◌, ◌≤◌, Bool, true, false, cond, eqb, ltb, ◌⊎◌, [], ◌∷◌, get_or, sym, refl, ap, ◌∙◌, subst, inl, inr, ⊎_elim, arith}
use Rattle.std.proofs.lemmas.Bool.{cases_lt, cases_eq, or_cases, or_left, or_right, cond-true, cond-false, lt-ltb, le-ltb, eqb-true, eq-eqb, ne_eqb}
use Rattle.meaning.specs.Books.{Book}
use Rattle.meaning.specs.Orders.{RoleBox}
use Rattle.meaning.specs.Universal.{universal_size, universal_law, universal_inside, universal_at, universal_else, with_universal}
use Rattle.meaning.specs.declared.Concept.TheVariants.{Nothing, Restriction}
use Rattle.meaning.specs.declared.Quantifier.TheVariants.{Forall}
use Rattle.tableau.specs.declared.Label.{Label}
use Rattle.tableau.specs.declared.Entry.TheVariants.{Plain, Inclusions}
use Rattle.tableau.specs.Folds.{gather}
use Rattle.tableau.specs.Labels.{in_label, put}
use Rattle.tableau.specs.Entries.{Ordered}
use Rattle.tableau.specs.Working.{propagates_by, Propagated, propagated_by, propagated_list, nowhere, plain_of, book_entry, everywhere_entry, width_of, propagated_entry, rule_entry, entry_of, rooted}
use Rattle.tableau.specs.Saturation.{Holds}
use Rattle.tableau.proofs.Labelling.{put_in, put_keeps, put_cases}
use Rattle.tableau.proofs.Gathering.{Each, gather_each, Among, gather_among}

-- the universal role over a hierarchy with a number left for it
module _ (H : RoleBox) (O : Ordered H) (few : H.count < 64) where
  -- what was transitive is, and so is the universal role
  pub universal_transitive : (r : ℕ) → H.transitive r ≡ true → (with_universal H).transitive r ≡ true
  universal_transitive r e = or_right (eqb r H.count) (H.transitive r) e

  pub universal_top : (with_universal H).transitive H.count ≡ true
  universal_top = or_left (eqb H.count H.count) _ (eq-eqb H.count H.count refl)

  -- a transitive role is the universal one, or was transitive
  pub transitive_cases : (r : ℕ) → (with_universal H).transitive r ≡ true → (r ≡ H.count) ⊎ (H.transitive r ≡ true)
  transitive_cases r e = ⊎_elim (λ h. inl (eqb-true r H.count h)) (λ h. inr h) (or_cases (eqb r H.count) (H.transitive r) e)

  -- what was below is, and all roles are below the universal one
  pub universal_below : (r s : ℕ) → H.below r s ≡ true → (with_universal H).below r s ≡ true
  universal_below r s e = universal_else H.count H.below r s (O.law.within r s e).1 ∙ e

  pub below_top : (r : ℕ) → r < universal_size H.count → (with_universal H).below r H.count ≡ true
  below_top r l = universal_at H.count H.below r H.count few refl (omega arith)

  -- the laws of a hierarchy
  pub universal_ordered : Ordered (with_universal H)
  universal_ordered = record {
    law = universal_law H.count H.below O.law;
    inside = universal_inside H.count H.transitive few O.inside;
  }

-- what is at each place of the table
module _ (H : RoleBox) (K : Book) where
  pub entry_concept : (i : ℕ) → i < K.entries → entry_of H K i ≡ Plain (K.concept i)
  unfolding entry_of
  entry_concept i l = cond-true (ltb i K.entries) _ _ (lt-ltb i K.entries l)

  pub entry_propagated : (i : ℕ) → K.entries ≤ i → i < plain_of H K → entry_of H K i ≡ propagated_entry K (get_or (propagated_list H K) (i - K.entries) nowhere)
  unfolding entry_of
  entry_propagated i g l = cond-false (ltb i K.entries) _ _ (le-ltb i K.entries g) ∙ cond-true (ltb i (plain_of H K)) _ _ (lt-ltb i (plain_of H K) l)

  pub entry_rule : (i : ℕ) → plain_of H K ≤ i → i < book_entry H K → entry_of H K i ≡ rule_entry (K.rule (i - plain_of H K))
  unfolding entry_of
  entry_rule i g l =
      cond-false (ltb i K.entries) _ _ (le-ltb i K.entries (omega arith)) ∙ cond-false (ltb i (plain_of H K)) _ _ (le-ltb i (plain_of H K) g)
      ∙ cond-true (ltb i (book_entry H K)) _ _ (lt-ltb i (book_entry H K) l)

  -- the entry of rule k
  pub rule_entry_at : (k : ℕ) → k < K.rules → entry_of H K (plain_of H K + k) ≡ rule_entry (K.rule k)
  rule_entry_at k l =
      let back : plain_of H K + k - plain_of H K ≡ k = omega arith in
      entry_rule (plain_of H K + k) (omega arith) (omega arith) ∙ ap (λ t. rule_entry (K.rule t)) back

  pub entry_book : entry_of H K (book_entry H K) ≡ Inclusions (plain_of H K) K.rules
  unfolding entry_of
  entry_book =
      let i = book_entry H K in
      cond-false (ltb i K.entries) _ _ (le-ltb i K.entries (omega arith)) ∙ cond-false (ltb i (plain_of H K)) _ _ (le-ltb i (plain_of H K) (omega arith))
      ∙ cond-false (ltb i (book_entry H K)) _ _ (le-ltb i (book_entry H K) (omega arith)) ∙ cond-true (eqb i (book_entry H K)) _ _ (eq-eqb i (book_entry H K) refl)

  -- past *book* there is *everywhere*, and then nothing
  past_book : (i : ℕ) → book_entry H K < i → entry_of H K i ≡ cond (eqb i (everywhere_entry H K)) (Plain (Restriction Forall H.count (book_entry H K))) (Plain Nothing)
  unfolding entry_of
  past_book i l =
      cond-false (ltb i K.entries) _ _ (le-ltb i K.entries (omega arith)) ∙ cond-false (ltb i (plain_of H K)) _ _ (le-ltb i (plain_of H K) (omega arith))
      ∙ cond-false (ltb i (book_entry H K)) _ _ (le-ltb i (book_entry H K) (omega arith)) ∙ cond-false (eqb i (book_entry H K)) _ _ (ne_eqb i (book_entry H K) (omega arith))

  pub entry_everywhere : entry_of H K (everywhere_entry H K) ≡ Plain (Restriction Forall H.count (book_entry H K))
  entry_everywhere =
      past_book (everywhere_entry H K) (omega arith)
      ∙ cond-true (eqb (everywhere_entry H K) (everywhere_entry H K)) _ _ (eq-eqb (everywhere_entry H K) (everywhere_entry H K) refl)

  pub entry_past : (i : ℕ) → width_of H K ≤ i → entry_of H K i ≡ Plain Nothing
  entry_past i g = past_book i (omega arith) ∙ cond-false (eqb i (everywhere_entry H K)) _ _ (ne_eqb i (everywhere_entry H K) (omega arith))

  -- where an entry stands, and what it is
  pub data Place (i : ℕ) : Type 0 where
    placed_concept : i < K.entries → entry_of H K i ≡ Plain (K.concept i) → Place i
    placed_propagated : K.entries ≤ i → i < plain_of H K → entry_of H K i ≡ propagated_entry K (get_or (propagated_list H K) (i - K.entries) nowhere) → Place i
    placed_rule : plain_of H K ≤ i → i < book_entry H K → entry_of H K i ≡ rule_entry (K.rule (i - plain_of H K)) → Place i
    placed_book : i ≡ book_entry H K → entry_of H K i ≡ Inclusions (plain_of H K) K.rules → Place i
    placed_everywhere : i ≡ everywhere_entry H K → entry_of H K i ≡ Plain (Restriction Forall H.count (book_entry H K)) → Place i
    placed_past : width_of H K ≤ i → entry_of H K i ≡ Plain Nothing → Place i

  -- each entry stands at one of the places
  pub placed : (i : ℕ) → Place i
  placed i = ⊎_elim
      (λ l. placed_concept l (entry_concept i l))
      (λ g. ⊎_elim
      (λ l. placed_propagated g l (entry_propagated i g l))
      (λ g. ⊎_elim
      (λ l. placed_rule g l (entry_rule i g l))
      (λ g. ⊎_elim
      (λ (e : i ≡ book_entry H K). placed_book e (ap (entry_of H K) e ∙ entry_book))
      (λ ne. ⊎_elim
      (λ (e : i ≡ everywhere_entry H K). placed_everywhere e (ap (entry_of H K) e ∙ entry_everywhere))
      (λ no. placed_past (omega arith) (entry_past i (omega arith)))
      (cases_eq i (everywhere_entry H K)))
      (cases_eq i (book_entry H K)))
      (cases_lt i (book_entry H K)))
      (cases_lt i (plain_of H K)))
      (cases_lt i K.entries)

  -- each propagated restriction is of an entry and by a role that make it one
  pub record Sprung (o : Propagated) : Type 0 where
    pub entry_in : o.origin < K.entries
    pub role_in : o.role < H.count
    pub made : propagates_by H (K.concept o.origin) o.role ≡ true

  one_sprung : (i p : ℕ) → i < K.entries → p < H.count → (b : Bool) → propagates_by H (K.concept i) p ≡ b → Each nowhere Sprung (cond b (record { origin = i; role = p } ∷ []) [])
  one_sprung i p l m true e zero h = record { entry_in = l; role_in = m; made = e }
  one_sprung i p l m true e (suc k) h = absurd (omega arith)
  one_sprung i p l m false e k h = absurd (omega arith)

  pub sprung : Each nowhere Sprung (propagated_list H K)
  unfolding propagated_list
  sprung = gather_each nowhere Sprung K.entries _ (λ i l. gather_each nowhere Sprung H.count _ (λ p m. one_sprung i p l m (propagates_by H (K.concept i) p) refl))

  -- and each entry and role that make one are there
  one_among : (i p : ℕ) → propagates_by H (K.concept i) p ≡ true → Among nowhere (propagated_by H K i p) (record { origin = i; role = p })
  one_among i p e = subst (λ b. Among nowhere (cond b (record { origin = i; role = p } ∷ []) []) (record { origin = i; role = p })) (sym e)
      (record { place = 0; inside = omega arith; is = refl })

  pub springs : (i p : ℕ) → i < K.entries → p < H.count → propagates_by H (K.concept i) p ≡ true → Among nowhere (propagated_list H K) (record { origin = i; role = p })
  unfolding propagated_list
  springs i p l m e =
      gather_among nowhere (record { origin = i; role = p }) K.entries i (λ i. gather H.count (propagated_by H K i)) l
      (gather_among nowhere (record { origin = i; role = p }) H.count p (propagated_by H K i) m (one_among i p e))

  -- the root seed holds *book*, *everywhere* and the seed, and nothing else
  pub rooted_book : (s : Label) → in_label (rooted H K s) true (book_entry H K) ≡ true
  rooted_book s = put_keeps true (everywhere_entry H K) (put true (book_entry H K) s) true (book_entry H K) (put_in true (book_entry H K) s)

  pub rooted_everywhere : (s : Label) → in_label (rooted H K s) true (everywhere_entry H K) ≡ true
  rooted_everywhere s = put_in true (everywhere_entry H K) (put true (book_entry H K) s)

  pub rooted_holds : (s : Label) → Holds (rooted H K s) s
  rooted_holds s t i e = put_keeps true (everywhere_entry H K) (put true (book_entry H K) s) t i (put_keeps true (book_entry H K) s t i e)

  pub rooted_cases : (s : Label) (t : Bool) (i : ℕ) → in_label (rooted H K s) t i ≡ true
      → ((t ≡ true) × ((i ≡ book_entry H K) ⊎ (i ≡ everywhere_entry H K))) ⊎ (in_label s t i ≡ true)
  rooted_cases s t i e = ⊎_elim
      (λ last. inl (last.0, inr last.1))
      (λ h. ⊎_elim (λ book. inl (book.0, inl book.1)) (λ g. inr g) (put_cases true (book_entry H K) s t i h))
      (put_cases true (everywhere_entry H K) (put true (book_entry H K) s) t i e)
