-- The working entries by their place, and the sets of them.
use Rattle.std.proofs.Common.{◌≡◌, ℕ, zero, suc, ◌+◌, ◌-◌, ◌*◌, ◌%◌, ◌^◌, ◌<◌, ◌≤◌, Bool, true, false, ◌&&◌, eqb, ltb, leb, List, length, get_or, take, sym, ap, ◌∙◌, ⊎_elim, arith, mul-lt-mul_of_pos_right, pow_pos, pow_mono, pow-add, length-take}
use Rattle.std.specs.Int.Bits.{shifted_even, shifted_half}
use Rattle.std.proofs.Math.Nat.{mod-eq_of_lt}
use Rattle.std.proofs.lemmas.List.{get_or_past, get_or-take}
use Rattle.std.proofs.lemmas.Bool.{cases_lt, and_parts, and_left, and_right, ltb-true, lt-ltb, le-ltb, le-leb, lt-leb, ne_eqb}
use Rattle.words.specs.Sets.{has}
use Rattle.words.proofs.Words.{has_none, has_first, has_next}
use Rattle.book.specs.Sections.{says}
use Rattle.book.specs.Views.{view}
use Rattle.meaning.specs.Books.{Book}
use Rattle.meaning.specs.Orders.{RoleBox}
use Rattle.meaning.specs.declared.Concept.TheVariants.{Nothing, Restriction}
use Rattle.meaning.specs.declared.Quantifier.TheVariants.{Forall}
use Rattle.tableau.specs.declared.Label.{Label}
use Rattle.tableau.specs.Labels.{empty, in_label}
use Rattle.tableau.specs.declared.Entry.{Entry}
use Rattle.tableau.specs.declared.Entry.TheVariants.{Plain, Inclusions}
use Rattle.tableau.specs.Working.{with_other_role, propagated_list, nowhere, plain_of, book_entry, width_of, rule_entry, entry_of, propagates_of}
use Rattle.tableau.proofs.Tables.{entry_propagated, entry_rule, entry_book, entry_everywhere, entry_past, sprung}
use Rattle.plan.specs.declared.working.Draft.{Draft}
use Rattle.plan.specs.Building.{box_of}
use Rattle.plan.specs.Plans.{listed_entry}
use Rattle.plan.specs.Signs.{Signs, said_of}
use Rattle.plan.specs.Listing.{noted_as}

-- a set, each of its members raised by f
pub has_raised : (w f j : ℕ) → has (w * 2 ^ f) j ≡ (leb f j && has w (j - f))
has_raised w zero j =
    let same : w * 2 ^ 0 ≡ w = omega arith in
    let here : j ≡ j - 0 = omega arith in
    ap (λ n. has n j) same ∙ ap (has w) here ∙ sym (ap (λ b. b && has w (j - 0)) (le-leb 0 j (omega arith)))
has_raised w (suc f) zero = has_first (w * 2 ^ suc f) ∙ ap (λ n. eqb n 1) (shifted_even w f) ∙ sym (and_left _ _ (lt-leb (suc f) zero (omega arith)))
has_raised w (suc f) (suc j) =
    let same : j - f ≡ suc j - suc f = omega arith in
    has_next (w * 2 ^ suc f) j ∙ ap (λ n. has n j) (shifted_half w f) ∙ has_raised w f j ∙ ap (λ k. leb f j && has w k) same
    ∙ ap (λ b. b && has w (suc j - suc f)) (⊎_elim
    (λ low. lt-leb f j low ∙ sym (lt-leb (suc f) (suc j) (omega arith)))
    (λ above. le-leb f j above ∙ sym (le-leb (suc f) (suc j) (omega arith)))
    (cases_lt j f))

-- raised, a set of numbers below n is a word where n and f fit one
pub raised_fits : (w n f : ℕ) → w < 2 ^ n → n + f ≤ 64 → (w * 2 ^ f) % 2 ^ 64 ≡ w * 2 ^ f
raised_fits w n f small fits =
    let below : w * 2 ^ f < 2 ^ n * 2 ^ f = mul-lt-mul_of_pos_right small (pow_pos f) in
    mod-eq_of_lt (omega (arith, below, pow-add 2 n f, pow_mono fits))

-- a propagated restriction stands before the rules
pub propagated_inside : (H : RoleBox) (K : Book) (i j : ℕ) → propagates_of H K i j ≡ true → j < plain_of H K
unfolding propagates_of
propagated_inside H K i j e =
    let o = (get_or (propagated_list H K) (j - K.entries) nowhere).origin in
    let a = and_parts (leb K.entries j) (ltb j (plain_of H K) && eqb o i) e in
    ltb-true j (plain_of H K) (and_parts (ltb j (plain_of H K)) (eqb o i) a.1).0

module _ (H : RoleBox) (K : Book) where
  -- an entry outside the propagated restrictions is one of none
  pub springs_out : (i j first : ℕ) → first ≡ K.entries → (first ≤ j → j < plain_of H K → ⊥) → propagates_of H K i j ≡ false
  unfolding propagates_of
  springs_out i j first e out = ⊎_elim
      (λ low. and_left _ _ (lt-leb K.entries j low))
      (λ above. and_right (leb K.entries j) _ (and_left _ _ (le-ltb j (plain_of H K) (⊎_elim (λ l. absurd (out (omega arith) l)) (λ g. g) (cases_lt j (plain_of H K))))))
      (cases_lt j K.entries)

  pub at_rule : (j plain : ℕ) → plain ≡ plain_of H K → plain ≤ j → j < plain + K.rules → rule_entry (K.rule (j - plain)) ≡ entry_of H K j
  at_rule j plain e g l = ap (λ p. rule_entry (K.rule (j - p))) e ∙ sym (entry_rule H K j (omega arith) (omega arith))

  pub at_book : (j plain rules : ℕ) → plain ≡ plain_of H K → rules ≡ K.rules → j ≡ plain + rules → Inclusions plain rules ≡ entry_of H K j
  at_book j plain rules e f here =
      ap (λ p. Inclusions p rules) e ∙ ap (Inclusions (plain_of H K)) f ∙ sym (entry_book H K) ∙ ap (entry_of H K) (omega arith)

  pub at_everywhere : (j count i : ℕ) → count ≡ H.count → i ≡ book_entry H K → j ≡ i + 1 → Plain (Restriction Forall count i) ≡ entry_of H K j
  at_everywhere j count i e f here =
      ap (λ r. Plain (Restriction Forall r i)) e ∙ ap (λ i. Plain (Restriction Forall H.count i)) f ∙ sym (entry_everywhere H K) ∙ ap (entry_of H K) (omega arith)

-- what a draft gives
module _ (d : Draft) where
  abbrev H : RoleBox
  H = box_of d.base.now

  abbrev K : Book
  K = says (view d.book.now)

  few : width_of H K ≤ 64
  few = omega (arith, d.width_is, d.narrow)

  pub at_propagated : (j first : ℕ) → first ≡ K.entries → first ≤ j → j < first + d.list.count
      → let o = get_or d.list.noted (j - first) (noted_as nowhere) in Plain (with_other_role o.role (K.concept o.origin)) ≡ entry_of H K j
  at_propagated j first e g l =
      let same : j - first ≡ j - K.entries = omega arith in
      let held = d.lists.held (j - K.entries) (omega (arith, few, d.lists.counted)) (omega (arith, few, d.lists.counted)) in
      ap (λ k. let o = get_or d.list.noted k (noted_as nowhere) in Plain (with_other_role o.role (K.concept o.origin))) same
      ∙ ap (λ o. Plain (with_other_role o.role (K.concept o.origin))) held
      ∙ sym (entry_propagated H K j (omega arith) (omega (arith, few, d.lists.counted)))

  -- an entry among the propagated restrictions is one of the entry that was noted
  pub springs_in : (i j first : ℕ) → first ≡ K.entries → first ≤ j → j < plain_of H K
      → eqb (get_or d.list.noted (j - first) (noted_as nowhere)).origin i ≡ propagates_of H K i j
  unfolding propagates_of
  springs_in i j first e g l =
      let held = d.lists.held (j - K.entries) (omega arith) (omega (arith, few)) in
      ap (λ f. eqb (get_or d.list.noted (j - f) (noted_as nowhere)).origin i) e ∙ ap (λ o. eqb o.origin i) held
      ∙ sym (ap (λ b. b && (ltb j (plain_of H K) && eqb (get_or (propagated_list H K) (j - K.entries) nowhere).origin i)) (le-leb K.entries j (omega arith))
      ∙ ap (λ b. b && eqb (get_or (propagated_list H K) (j - K.entries) nowhere).origin i) (lt-ltb j (plain_of H K) l))

  -- those of an entry are its places in the list, raised by the number of the book's entries
  pub places_raised : (i j first : ℕ) → first ≡ K.entries
      → (leb first j && (ltb (j - first) d.list.count && eqb (get_or d.list.noted (j - first) (noted_as nowhere)).origin i)) ≡ propagates_of H K i j
  places_raised i j first e =
      let is : Bool = eqb (get_or d.list.noted (j - first) (noted_as nowhere)).origin i in
      ⊎_elim
      (λ low. and_left _ _ (lt-leb first j low) ∙ sym (springs_out H K i j first e (λ g l. omega arith)))
      (λ above. ap (λ b. b && (ltb (j - first) d.list.count && is)) (le-leb first j above) ∙ ⊎_elim
      (λ inside. ap (λ b. b && is) (lt-ltb (j - first) d.list.count inside) ∙ springs_in i j first e above (omega (arith, d.lists.counted)))
      (λ past. and_left _ _ (le-ltb (j - first) d.list.count past) ∙ sym (springs_out H K i j first e (λ g l. omega (arith, d.lists.counted))))
      (cases_lt (j - first) d.list.count))
      (cases_lt j first)

  -- an entry from 64 on is the origin of none
  none_of : (i j : ℕ) → 64 ≤ i → propagates_of H K i j ≡ false
  unfolding propagates_of
  none_of i j far =
      let o = (get_or (propagated_list H K) (j - K.entries) nowhere).origin in
      ⊎_elim
      (λ low. and_left _ _ (lt-leb K.entries j low))
      (λ above. ⊎_elim
      (λ inside.
      let s = (sprung H K (j - K.entries) (omega arith)).entry_in in
      and_right (leb K.entries j) _ (and_right (ltb j (plain_of H K)) (eqb o i) (ne_eqb o i (λ e. omega (arith, few)))))
      (λ past. and_right (leb K.entries j) _ (and_left _ _ (le-ltb j (plain_of H K) past)))
      (cases_lt j (plain_of H K)))
      (cases_lt j K.entries)

  pub rows_all : (rows : List ℕ) → length rows ≡ 64 → ((i j : ℕ) → i < 64 → has (get_or rows i 0) j ≡ propagates_of H K i j)
      → (i j : ℕ) → has (get_or rows i 0) j ≡ propagates_of H K i j
  rows_all rows long each i j = ⊎_elim
      (λ l. each i j l)
      (λ g. ap (λ w. has w j) (get_or_past rows i 0 (omega arith)) ∙ has_none j ∙ sym (none_of i j g))
      (cases_lt i 64)

  pub entries_all : (es : List Entry) → length es ≡ 64 → ((k : ℕ) → k < 64 → listed_entry es k ≡ entry_of H K k) → (i : ℕ) → listed_entry es i ≡ entry_of H K i
  entries_all es long each i = ⊎_elim
      (λ l. each i l)
      (λ g. get_or_past es i (Plain Nothing) (omega arith) ∙ sym (entry_past H K i (omega (arith, few))))
      (cases_lt i 64)

-- what a test says of the first n entries
pub within_first : (n j : ℕ) (es : List Entry) (p : Entry → Bool) → n ≤ length es
    → (ltb j (length (take n es)) && p (listed_entry (take n es) j)) ≡ (ltb j n && p (listed_entry es j))
within_first n j es p l =
    ap (λ m. ltb j m && p (listed_entry (take n es) j)) (length-take n es ∙ omega arith) ∙ ⊎_elim
    (λ in_first. ap (λ e. ltb j n && p e) (get_or-take n es j (Plain Nothing) in_first))
    (λ past. and_left _ _ (le-ltb j n past) ∙ sym (and_left _ _ (le-ltb j n past)))
    (cases_lt j n)

-- a label of which each word is such a set
pub signs_from : (p : Entry → Bool → Bool) (n : ℕ) (es : List Entry) (a b : ℕ) → ((i : ℕ) → has a i ≡ (ltb i n && p (listed_entry es i) true))
    → ((i : ℕ) → has b i ≡ (ltb i n && p (listed_entry es i) false)) → Signs p n es (record { plus = a; minus = b })
unfolding in_label
signs_from p n es a b f g true i = f i
signs_from p n es a b f g false i = g i

-- what such a label says of the first n entries
pub signs_first : (p : Entry → Bool → Bool) (n : ℕ) (es : List Entry) (l : Label) → n ≤ length es → Signs p (length (take n es)) (take n es) l → Signs p n es l
signs_first p n es l h so s i = so s i ∙ within_first n i es (λ e. p e s) h

-- what the entries say of their parts, past the end too
pub said_all : (es : List Entry) (ls : List Label) → length es ≡ 64 → length ls ≡ 64 → ((i : ℕ) → i < 64 → get_or ls i empty ≡ said_of (listed_entry es i))
    → (i : ℕ) → get_or ls i empty ≡ said_of (listed_entry es i)
said_all es ls long many each i = ⊎_elim
    (λ l. each i l)
    (λ g. get_or_past ls i empty (omega arith) ∙ sym (ap said_of (get_or_past es i (Plain Nothing) (omega arith))))
    (cases_lt i 64)
