-- What the layout of a book comes to, case by case.
use Rattle.std.proofs.Common.{◌≡◌, ℕ, ◌+◌, ◌*◌, ◌≤◌, Bool, true, false, ◌&&◌, ◌||◌, ltb, leb, List, length, is_some, Some, None, Option, sym, refl, ap, ⊎_elim, arith}
use Rattle.std.proofs.lemmas.Bool.{or_parts, and_from, and_left, and_right, le-leb, lt-leb, ltb-false, cond-false, cases_lt}
use Rattle.denial.specs.Denials.{granted, denied, trailer_report}
use Rattle.denial.specs.declared.Report.{Report}
use Rattle.denial.specs.declared.TrailerDenial.TheVariants.{Length, Count, Place}
use Rattle.meaning.specs.Bounded.{first}
use Rattle.meaning.proofs.Firsts.{Clear, clear_from}
use Rattle.book.specs.declared.trailer.Section.{Section}
use Rattle.book.specs.declared.trailer.Layout.{Layout}
use Rattle.book.specs.Layouts.{trailer_start, section_from, bad_count, bad_place, layout_of, least, most, end_of, laying, Laid}

module _ (bytes : List ℕ) where
  fits : 16 ≤ length bytes → length bytes ≤ 8192 → (leb 16 (length bytes) && leb (length bytes) 8192) ≡ true
  fits p q = and_from (leb 16 (length bytes)) (leb (length bytes) 8192) (le-leb 16 (length bytes) p) (le-leb (length bytes) 8192 q)

  pub laying_length : (leb 16 (length bytes) && leb (length bytes) 8192) ≡ false → laying bytes ≡ denied (trailer_report (Length (length bytes)))
  unfolding laying
  laying_length e = cond-false _ _ _ e

  pub laying_count : 16 ≤ length bytes → length bytes ≤ 8192 → (j : ℕ) → Some j ≡ first 4 (bad_count bytes)
      → laying bytes ≡ denied (trailer_report (Count (trailer_start bytes + 4 * j + 2)))
  unfolding laying
  laying_count p q j e = rw (fits p q, ← e)

  pub laying_place : 16 ≤ length bytes → length bytes ≤ 8192 → None ≡ first 4 (bad_count bytes) → (j : ℕ) → Some j ≡ first 4 (bad_place bytes)
      → laying bytes ≡ denied (trailer_report (Place (trailer_start bytes + 4 * j)))
  unfolding laying
  laying_place p q n j e = rw (fits p q, ← n, ← e)

  pub laying_good : 16 ≤ length bytes → length bytes ≤ 8192 → None ≡ first 4 (bad_count bytes) → None ≡ first 4 (bad_place bytes)
      → laying bytes ≡ granted (layout_of bytes)
  unfolding laying
  laying_good p q n e = rw (fits p q, ← n, ← e)

  none_clear : (p : ℕ → Bool) → None ≡ first 4 p → Clear 4 p
  none_clear p e = clear_from 4 p (ap is_some (sym e))

  counted : (j : ℕ) → bad_count bytes j ≡ false → (least j ≤ (section_from bytes j).count) × ((section_from bytes j).count ≤ most j)
  counted j e =
      let n = (section_from bytes j).count in
      let h = or_parts (ltb n (least j)) (ltb (most j) n) e in
      (ltb-false n (least j) h.0, ltb-false (most j) n h.1)

  -- section i comes after section j
  ordered : (i j : ℕ) (rest : Bool) → (ltb (section_from bytes i).place (end_of bytes j) || rest) ≡ false → end_of bytes j ≤ (section_from bytes i).place
  ordered i j rest e = ltb-false (section_from bytes i).place (end_of bytes j) (or_parts (ltb (section_from bytes i).place (end_of bytes j)) rest e).0

  pub laid : 16 ≤ length bytes → length bytes ≤ 8192 → None ≡ first 4 (bad_count bytes) → None ≡ first 4 (bad_place bytes) → Laid (length bytes) (layout_of bytes)
  laid p q n e =
      let counts = none_clear (bad_count bytes) n in
      let places = none_clear (bad_place bytes) e in
      let before = ltb (section_from bytes 3).place (end_of bytes 2) in
      let over = ltb (trailer_start bytes) (end_of bytes 3) in
      record {
        short = q;
        few_roles = (counted 0 (counts 0 (omega arith))).1;
        few_pairs = (counted 1 (counts 1 (omega arith))).1;
        some_concepts = (counted 2 (counts 2 (omega arith))).0;
        few_concepts = (counted 2 (counts 2 (omega arith))).1;
        few_rules = (counted 3 (counts 3 (omega arith))).1;
        roles_end = omega (arith, ordered 1 0 false (places 1 (omega arith)));
        pairs_end = ordered 2 1 false (places 2 (omega arith));
        concepts_end = ordered 3 2 over (places 3 (omega arith));
        rules_end = omega (arith, ltb-false (trailer_start bytes) (end_of bytes 3) (or_parts before over (places 3 (omega arith))).1);
      }

  pub layout_is : (a b c d : Section) → a ≡ section_from bytes 0 → b ≡ section_from bytes 1 → c ≡ section_from bytes 2 → d ≡ section_from bytes 3
      → ◌≡◌ {A = Layout} (record { roles = a; pairs = b; concepts = c; rules = d }) (layout_of bytes)
  layout_is a b c d e f g h = cc

  never : {A : Type 0} {r : Report} (l : Layout) → laying bytes ≡ granted l → laying bytes ≡ denied r → A
  never l e f = absurd (let z : ◌≡◌ {A = ℕ} 0 1 = cc in omega arith)

  same_layout : (l m : Layout) → laying bytes ≡ granted l → laying bytes ≡ granted m → l ≡ m
  same_layout l m e f = cc

  -- a layout that is granted is the one of the trailer, and is laid in order
  pub laid_from : (l : Layout) → laying bytes ≡ granted l → (l ≡ layout_of bytes) × Laid (length bytes) (layout_of bytes)
  laid_from l e = ⊎_elim
      (λ short. never l e (laying_length (and_left (leb 16 (length bytes)) (leb (length bytes) 8192) (lt-leb 16 (length bytes) short))))
      (λ p. ⊎_elim (λ long. never l e (laying_length (and_right (leb 16 (length bytes)) (leb (length bytes) 8192) (lt-leb (length bytes) 8192 long)))) (λ q. counts p q (first 4 (bad_count bytes)) refl (first 4 (bad_place bytes)) refl) (cases_lt 8192 (length bytes)))
      (cases_lt (length bytes) 16)
    where
      counts : 16 ≤ length bytes → length bytes ≤ 8192 → (o : Option ℕ) → first 4 (bad_count bytes) ≡ o → (u : Option ℕ) → first 4 (bad_place bytes) ≡ u
          → (l ≡ layout_of bytes) × Laid (length bytes) (layout_of bytes)
      counts p q (Some j) f u g = never l e (laying_count p q j (sym f))
      counts p q None f (Some j) g = never l e (laying_place p q (sym f) j (sym g))
      counts p q None f None g = (same_layout l (layout_of bytes) e (laying_good p q (sym f) (sym g)), laid p q (sym f) (sym g))
