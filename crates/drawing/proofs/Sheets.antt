-- The words of a world are a good sheet of it, and the same for worlds that agree.
use Rattle.std.proofs.Common.{◌≡◌, ℕ, zero, suc, ◌+◌, ◌-◌, ◌*◌, ◌/◌, ◌%◌, ◌^◌, ◌<◌, ◌≤◌, Bool, true, false, cond, ◌&&◌, leb, List, [], ◌∷◌, ◌++◌, length, get_or, drop, sym, refl, ap, ◌∙◌, subst, ⊎_elim, arith}
use Rattle.std.proofs.lemmas.Nat.{mul-add-lt, div_below, mod_below}
use Rattle.std.proofs.lemmas.Bool.{cases_eq, cases_lt, eq-eqb, ne_eqb, lt-ltb, le-ltb, le-leb, lt-leb, leb-true, and_from, not_from_true, cond-true, cond-false}
use Rattle.words.specs.Sets.{has, set_of}
use Rattle.denial.specs.Denials.{granted, denied, denial_report}
use Rattle.denial.specs.declared.Denial.TheVariants.{ShortSheet}
use Rattle.meaning.specs.Agreement.{Agree}
use Rattle.meaning.specs.Worlds.{Interpretation, Sized}
use Rattle.meaning.proofs.Firsts.{first_none}
use Rattle.sheet.specs.Sheets.{needed, strays, unless_stray, sheet_of}
use Rattle.sheet.proofs.Sets.{set_same, has_set}
use Rattle.drawing.specs.Drawings.{word_at, words_of, drawn_on, drawing, Drawn, DrawingIsRight, DrawnAlike}
use Rattle.drawing.proofs.Overlays.{overlaid, word_size, word_fits, word_name, word_row, overlaid_is, length_overlaid}

-- words that begin with a good number, are enough and stray nowhere are a good sheet
sheet_good : (roles : ℕ) (words : List ℕ) → 0 < get_or words 0 0 → get_or words 0 0 ≤ 64 → needed roles (get_or words 0 0) ≤ length words
    → ((k : ℕ) → k < 64 + roles * get_or words 0 0 → get_or words (k + 1) 0 < 2 ^ get_or words 0 0)
    → sheet_of roles words ≡ granted words
sheet_good roles words some few room fits =
    let m = get_or words 0 0 in
    cond-false _ _ _ (not_from_true _ (and_from _ _ (lt-ltb 0 m some) (lt-ltb m 65 (omega arith))))
    ∙ cond-false _ _ _ (le-ltb (length words) (needed roles m) room)
    ∙ ap (unless_stray words) (first_none (64 + roles * m) (λ k. strays m (get_or words (k + 1) 0))
    (λ k l. not_from_true _ (lt-ltb (get_or words (k + 1) 0) (2 ^ m) (fits k l))))

-- a test that is passed leaves the one behind it
both : (a b c : Bool) → a ≡ true → b ≡ c → (a && b) ≡ c
both a b c e f = ap (λ t. t && b) e ∙ f

-- a world of 1 to 64 individuals and the words after it was written over them, where they suffice
module _ (roles : ℕ) (W : Interpretation) (sized : Sized W) (words : List ℕ) (room : needed roles W.size ≤ length words) where
  abbrev after : List ℕ
  after = overlaid W (needed roles W.size) words

  -- each word needed is the world's
  at : (k : ℕ) → k < needed roles W.size → get_or after k 0 ≡ word_at W k
  at k l = overlaid_is W (needed roles W.size) k words l

  -- so the first tells its size,
  count : get_or after 0 0 ≡ W.size
  count = at 0 (omega arith) ∙ word_size W

  -- and the others, which are sets of its individuals, do not stray
  good : sheet_of roles after ≡ granted after
  good = sheet_good roles after
      (subst (λ m. 0 < m) (sym count) sized.some)
      (subst (λ m. m ≤ 64) (sym count) sized.few)
      (subst (λ m. needed roles m ≤ length after) (sym count) (omega (arith, length_overlaid W (needed roles W.size) words room)))
      (subst (λ m. (k : ℕ) → k < 64 + roles * m → get_or after (k + 1) 0 < 2 ^ m) (sym count)
      (λ k l. subst (λ w. w < 2 ^ W.size) (sym (at (k + 1) (omega arith))) (word_fits W (k + 1) (omega arith))))

  -- the members of a name's word bear it, and those of a row's are joined
  pub overlaid_drawn : Drawn roles W after
  overlaid_drawn = record {
    many = at 0 (omega arith) ∙ word_size W;
    good = good;
    agrees = record {
      size = refl;
      bears = λ x n l h. both _ _ _ (lt-ltb n 64 h)
          (ap (λ w. has w x) (at (1 + n) (omega arith) ∙ word_name W n h) ∙ has_set W.size x (λ x. W.bears x n) l);
      joins = λ r x y u l h. both _ _ _ (lt-ltb r roles u) (both _ _ _ (lt-ltb x W.size l)
          (ap (λ w. has w y) (at (65 + r * W.size + x) (omega (arith, mul-add-lt r W.size x roles u l)) ∙ word_row W r x l)
          ∙ has_set W.size y (λ y. W.joins r x y) h));
    };
  }

-- where the words suffice, they are written over
pub drawn_is : (roles : ℕ) (W : Interpretation) (words : List ℕ) → leb (needed roles W.size) (length words) ≡ true
    → drawn_on roles W words ≡ overlaid W (needed roles W.size) words
unfolding drawn_on
drawn_is roles W words e = cond-true _ _ _ e

-- where they do not, they stay as they were
pub drawn_not : (roles : ℕ) (W : Interpretation) (words : List ℕ) → leb (needed roles W.size) (length words) ≡ false
    → drawn_on roles W words ≡ words
unfolding drawn_on
drawn_not roles W words e = cond-false _ _ _ e

-- the test for enough words, where the number of individuals is m to the code: passed,
pub suffices : (roles m lent : ℕ) (W : Interpretation) → m ≡ W.size → needed roles m ≤ lent → leb (needed roles W.size) lent ≡ true
suffices roles m lent W e l = le-leb _ _ (subst (λ n. needed roles n ≤ lent) e l)

-- and failed
pub falls_short : (roles m lent : ℕ) (W : Interpretation) → m ≡ W.size → lent < needed roles m → leb (needed roles W.size) lent ≡ false
falls_short roles m lent W e l = lt-leb _ _ (subst (λ n. lent < needed roles n) e l)

-- then m is answered,
pub granted_is : (roles m lent : ℕ) (W : Interpretation) → m ≡ W.size → needed roles m ≤ lent → granted m ≡ drawing roles W lent
granted_is roles m lent W e l = ap granted e ∙ sym (cond-true _ _ _ (suffices roles m lent W e l))

-- or the number of words needed is reported
pub denied_is : (roles m lent : ℕ) (W : Interpretation) → m ≡ W.size → lent < needed roles m
    → denied (denial_report (ShortSheet (needed roles m))) ≡ drawing roles W lent
denied_is roles m lent W e l =
    ap (λ n. denied (denial_report (ShortSheet (needed roles n)))) e ∙ sym (cond-false _ _ _ (falls_short roles m lent W e l))

-- a world is written down well
pub drawing_right : DrawingIsRight
drawing_right roles W sized words e =
    subst (Drawn roles W) (sym (drawn_is roles W words e)) (overlaid_drawn roles W sized words (leb-true _ _ e))

-- worlds that agree have the same word k: both their size, or the set of the same bearers, or the same row
word_same : (roles : ℕ) (W V : Interpretation) → 0 < W.size → Agree roles W V → (k : ℕ) → k < needed roles W.size → word_at W k ≡ word_at V k
unfolding word_at
word_same roles W V some agree k l =
    let m = W.size in
    let e = agree.size in
    ⊎_elim
    (λ (z : k ≡ 0). cond-true _ _ _ (eq-eqb k 0 z) ∙ e ∙ sym (cond-true _ _ _ (eq-eqb k 0 z)))
    (λ nz. cond-false _ _ _ (ne_eqb k 0 nz) ∙ ⊎_elim
    (λ (name : k < 65). cond-true _ _ _ (lt-ltb k 65 name)
    ∙ set_same m _ _ (λ x h. agree.bears x (k - 1) h (omega arith))
    ∙ ap (λ n. set_of n (λ x. V.bears x (k - 1))) e
    ∙ sym (cond-true _ _ _ (lt-ltb k 65 name)))
    (λ row. cond-false _ _ _ (le-ltb k 65 row)
    ∙ set_same m _ _ (λ y h. agree.joins ((k - 65) / m) ((k - 65) % m) y (div_below (k - 65) m roles some (omega arith)) (mod_below (k - 65) m some) h)
    ∙ ap (λ n. set_of n (λ y. V.joins ((k - 65) / n) ((k - 65) % n) y)) e
    ∙ sym (cond-false _ _ _ (le-ltb k 65 row)))
    (cases_lt k 65)
    ∙ sym (cond-false _ _ _ (ne_eqb k 0 nz)))
    (cases_eq k 0)

-- and so the same first words
words_same : (roles : ℕ) (W V : Interpretation) → 0 < W.size → Agree roles W V → (n : ℕ) → n ≤ needed roles W.size → words_of W n ≡ words_of V n
unfolding words_of
words_same roles W V some agree zero l = refl
words_same roles W V some agree (suc n) l =
    ap (λ ws. ws ++ word_at W n ∷ []) (words_same roles W V some agree n (omega arith))
    ∙ ap (λ w. words_of V n ++ w ∷ []) (word_same roles W V some agree n (omega arith))

-- and so they are written alike: the number of words is the same too
pub drawn_same : DrawnAlike
unfolding drawn_on
drawn_same roles W V sized agree words =
    ap (λ ws. cond (leb (needed roles W.size) (length words)) (ws ++ drop (needed roles W.size) words) words)
    (words_same roles W V sized.some agree (needed roles W.size) (omega arith))
    ∙ ap (λ m. cond (leb (needed roles m) (length words)) (words_of V (needed roles m) ++ drop (needed roles m) words) words) agree.size
