-- What a plan's sets say of the restrictions that are told on to a successor.
use Rattle.std.proofs.Common.{◌≡◌, ℕ, ◌^◌, ◌<◌, Bool, true, false, cond, not, ◌&&◌, ◌||◌, eqb, ltb, get_or, sym, refl, ap, ◌∙◌, ⊎_elim, arith}
use lib.Bits.{bit_and, bit_or, or_zero_l, or_zero_r}
use Rattle.std.proofs.lemmas.Bool.{and_cases, and_parts, and_from, and_left, and_right, or_parts, or_cases, both_ways, lt-ltb, eqb-true, cond-true, cond-false, cond_both}
use Rattle.words.specs.Sets.{has, set_of}
use Rattle.words.proofs.Words.{has_and, has_single, same_word, comprehends}
use Rattle.meaning.specs.Orders.{RoleBox}
use Rattle.meaning.specs.declared.Concept.TheVariants.{Nothing, Everything, Name, Not, And, Or, Restriction}
use Rattle.meaning.specs.declared.Quantifier.{Quantifier}
use Rattle.meaning.specs.declared.Quantifier.TheVariants.{Exists, Forall, NoneOf}
use Rattle.tableau.specs.declared.Label.{Label}
use Rattle.tableau.specs.declared.Entry.{Entry}
use Rattle.tableau.specs.declared.Entry.TheVariants.{Plain, Inclusion, Inclusions}
use Rattle.tableau.specs.Folds.{fold}
use Rattle.tableau.specs.Entries.{Table}
use Rattle.tableau.specs.Labels.{empty, in_label, put, put_all, joined, common}
use Rattle.tableau.specs.Seeds.{obliges, sign_of, role_of, told_propagated, told_further, told_by_entry, tell}
use Rattle.plan.specs.declared.Plan.{Plan}
use Rattle.plan.specs.Meanings.{table_in, box_in}
use Rattle.plan.specs.Plans.{listed_entry, listed_role}
use Rattle.plan.specs.Signs.{restricting_entry, restricting_sign, said_of}
use Rattle.successor.proofs.Labels.{fold_puts, in_plus, in_minus}

-- the propagated restrictions of entry i whose role is above r, told one by one, are told as one set
pub propagated_told : (p : Plan) (r : ℕ) (s : Bool) (i : ℕ) (l : Label) → r < 64
    → fold p.width (told_propagated (box_in p) (table_in p) r s i) l ≡ put_all s (bit_and (get_or p.propagated i 0) (get_or p.above r 0)) l
unfolding told_propagated
propagated_told p r s i l few =
    fold_puts p.width told s l ∙ ap (λ w. put_all s w l) (same_word (set_of p.width told) (bit_and (get_or p.propagated i 0) (get_or p.above r 0)) same)
  where
    told : ℕ → Bool
    told j = has (get_or p.propagated i 0) j && has (get_or p.rows r 0) (listed_role p.entries j)

    swap : (x y z : Bool) → (x && (y && z)) ≡ (y && (x && z))
    swap true true z = refl
    swap true false z = refl
    swap false true z = refl
    swap false false z = refl

    same : (k : ℕ) → has (set_of p.width told) k ≡ has (bit_and (get_or p.propagated i 0) (get_or p.above r 0)) k
    same k =
        (comprehends p.width told).members k
        ∙ swap (ltb k p.width) (has (get_or p.propagated i 0) k) (has (get_or p.rows r 0) (listed_role p.entries k))
        ∙ ap (λ b. has (get_or p.propagated i 0) k && b) (sym (p.above_is r k few))
        ∙ sym (has_and (get_or p.propagated i 0) (get_or p.above r 0) k)

-- whether the role of an entry is above r, by one bit
pub above_at : (p : Plan) (r i : ℕ) → r < 64 → i < p.width → has (get_or p.above r 0) i ≡ has (get_or p.rows r 0) (listed_role p.entries i)
above_at p r i few l = p.above_is r i few ∙ ap (λ b. b && has (get_or p.rows r 0) (listed_role p.entries i)) (lt-ltb i p.width l)

-- what entry i tells a successor by r, with either sign that the label holds it with
abbrev pub told_by_signs : RoleBox → Table → Label → ℕ → ℕ → Label → Label
told_by_signs H B l r i acc = tell H B l r true i (tell H B l r false i acc)

-- an entry that restricts none with the sign, or whose role is not above r, tells a successor by r nothing
untold : (H : RoleBox) (B : Table) (r : ℕ) (s : Bool) (i : ℕ) (e : Entry) (acc : Label) → (restricting_entry e s && H.below r (role_of e)) ≡ false
    → told_by_entry H B r s i e acc ≡ acc
untold H B r s i (Plain Nothing) acc h = refl
untold H B r s i (Plain Everything) acc h = refl
untold H B r s i (Plain (Name n)) acc h = refl
untold H B r s i (Plain (Not a)) acc h = refl
untold H B r s i (Plain (And a b)) acc h = refl
untold H B r s i (Plain (Or a b)) acc h = refl
untold H B r s i (Plain (Restriction q t a)) acc h =
    cond-false (not (obliges q s) && H.below r t) (told_further H B r s i t (put (sign_of q s) a acc)) acc h
untold H B r s i (Inclusion c d) acc h = refl
untold H B r s i (Inclusions lo n) acc h = refl

tell_low : (H : RoleBox) (B : Table) (l : Label) (r : ℕ) (s : Bool) (i : ℕ) (acc : Label) → H.below r (role_of (B.entry i)) ≡ false → tell H B l r s i acc ≡ acc
tell_low H B l r s i acc h =
    cond_both (in_label l s i) (told_by_entry H B r s i (B.entry i) acc) acc (λ m. m ≡ acc)
    (λ e. untold H B r s i (B.entry i) acc (and_right (restricting_entry (B.entry i) s) (H.below r (role_of (B.entry i))) h)) (λ e. refl)

-- so where the label holds no signed entry that restricts, nothing is told
tell_unsaid : (H : RoleBox) (B : Table) (l : Label) (r : ℕ) (s : Bool) (i : ℕ) (acc : Label)
    → (in_label l s i && restricting_entry (B.entry i) s) ≡ false → tell H B l r s i acc ≡ acc
tell_unsaid H B l r s i acc h =
    cond_both (in_label l s i) (told_by_entry H B r s i (B.entry i) acc) acc (λ m. m ≡ acc)
    (λ e. untold H B r s i (B.entry i) acc
    (and_left (restricting_entry (B.entry i) s) (H.below r (role_of (B.entry i))) (ap (λ b. b && restricting_entry (B.entry i) s) (sym e) ∙ h)))
    (λ e. refl)

both : (H : RoleBox) (B : Table) (l : Label) (r i : ℕ) → ((s : Bool) (acc : Label) → tell H B l r s i acc ≡ acc) → (acc : Label) → told_by_signs H B l r i acc ≡ acc
both H B l r i none acc = none true (tell H B l r false i acc) ∙ none false acc

-- the signed entries of the label that restrict all successors are those of c
abbrev pub Restricts : Plan → Label → Label → Type 0
Restricts p l c = c ≡ common l p.restricting

restricts_at : (p : Plan) (l c : Label) → Restricts p l c → (s : Bool) (i : ℕ) → i < p.width
    → in_label c s i ≡ (in_label l s i && restricting_entry (listed_entry p.entries i) s)
unfolding in_label
restricts_at p l c is true i h = ap (λ (m : Label). has m.plus i) is ∙ has_and l.plus p.restricting.plus i ∙ ap (λ b. has l.plus i && b) (p.restricting_are true i ∙ ap (λ b. b && restricting_entry (listed_entry p.entries i) true) (lt-ltb i p.width h))
restricts_at p l c is false i h = ap (λ (m : Label). has m.minus i) is ∙ has_and l.minus p.restricting.minus i ∙ ap (λ b. has l.minus i && b) (p.restricting_are false i ∙ ap (λ b. b && restricting_entry (listed_entry p.entries i) false) (lt-ltb i p.width h))

-- an entry that is not among them, or whose role is not above r, tells a successor by r nothing
pub tells_nothing : (p : Plan) (l c : Label) (r i : ℕ) → Restricts p l c → r < 64 → i < p.width
    → ((has c.plus i || has c.minus i) && has (get_or p.above r 0) i) ≡ false
    → (acc : Label) → told_by_signs (box_in p) (table_in p) l r i acc ≡ acc
tells_nothing p l c r i is few h e = ⊎_elim
    (λ none. both (box_in p) (table_in p) l r i (out (or_parts (has c.plus i) (has c.minus i) none)))
    (λ low. both (box_in p) (table_in p) l r i (λ s acc. tell_low (box_in p) (table_in p) l r s i acc (sym (above_at p r i few h) ∙ low)))
    (and_cases (has c.plus i || has c.minus i) (has (get_or p.above r 0) i) e)
  where
    out : (has c.plus i ≡ false) × (has c.minus i ≡ false) → (s : Bool) (acc : Label) → tell (box_in p) (table_in p) l r s i acc ≡ acc
    out n true acc = tell_unsaid (box_in p) (table_in p) l r true i acc (sym (restricts_at p l c is true i h) ∙ in_plus c true i refl ∙ n.0)
    out n false acc = tell_unsaid (box_in p) (table_in p) l r false i acc (sym (restricts_at p l c is false i h) ∙ in_minus c false i refl ∙ n.1)

and_true : (b : Bool) → (b && true) ≡ b
and_true true = refl
and_true false = refl

-- Of a restriction, the set that is told on.
module _ (p : Plan) (r : ℕ) (s : Bool) (i : ℕ) (few : r < 64) (inside : i < p.width) (above : has (get_or p.above r 0) i ≡ true) where
  passed : (j : ℕ) → has (get_or p.passed_on i 0) j ≡ cond (has p.marks (listed_role p.entries i)) (eqb j i) (has (get_or p.propagated i 0) j)
  passed j = p.passed_on_is i j (omega (arith, p.few))

  -- itself, where its role is transitive
  alone : has p.marks (listed_role p.entries i) ≡ true → bit_and (get_or p.passed_on i 0) (get_or p.above r 0) ≡ 2 ^ i
  alone t = same_word (bit_and (get_or p.passed_on i 0) (get_or p.above r 0)) (2 ^ i) (λ j.
      has_and (get_or p.passed_on i 0) (get_or p.above r 0) j
      ∙ ap (λ b. b && has (get_or p.above r 0) j) (passed j ∙ cond-true (has p.marks (listed_role p.entries i)) (eqb j i) (has (get_or p.propagated i 0) j) t)
      ∙ here j (eqb j i) refl ∙ sym (has_single i j))
    where
      here : (j : ℕ) (b : Bool) → eqb j i ≡ b → (eqb j i && has (get_or p.above r 0) j) ≡ eqb j i
      here j true e = ap (λ k. eqb j i && has (get_or p.above r 0) k) (eqb-true j i e) ∙ ap (λ b. eqb j i && b) above ∙ and_true (eqb j i)
      here j false e = ap (λ b. b && has (get_or p.above r 0) j) e ∙ sym e

  -- else those propagated of it
  others : has p.marks (listed_role p.entries i) ≡ false → get_or p.passed_on i 0 ≡ get_or p.propagated i 0
  others t = same_word (get_or p.passed_on i 0) (get_or p.propagated i 0) (λ j.
      passed j ∙ cond-false (has p.marks (listed_role p.entries i)) (eqb j i) (has (get_or p.propagated i 0) j) t)

  told_set : (acc : Label) → put_all s (bit_and (get_or p.passed_on i 0) (get_or p.above r 0)) acc ≡ told_further (box_in p) (table_in p) r s i (listed_role p.entries i) acc
  unfolding put
  told_set acc =
      let B = table_in p in
      let t = listed_role p.entries i in
      cond_both (has p.marks t) (put s i acc) (fold p.width (told_propagated (box_in p) B r s i) acc)
      (λ m. put_all s (bit_and (get_or p.passed_on i 0) (get_or p.above r 0)) acc ≡ m)
      (λ e. ap (λ w. put_all s w acc) (alone e) ∙ put_one s acc)
      (λ e. ap (λ w. put_all s (bit_and w (get_or p.above r 0)) acc) (others e) ∙ sym (propagated_told p r s i acc few))
    where
      put_one : (s : Bool) (acc : Label) → put_all s (2 ^ i) acc ≡ put s i acc
      put_one true acc = refl
      put_one false acc = refl

-- a restriction restricts with one sign
one_sign : (q : Quantifier) (s : Bool) → not (obliges q s) ≡ true → (s ≡ restricting_sign q) × (not (obliges q (not s)) ≡ false)
one_sign Exists true h = absurd (both_ways false refl h)
one_sign Exists false h = (refl, refl)
one_sign Forall true h = (refl, refl)
one_sign Forall false h = absurd (both_ways false refl h)
one_sign NoneOf true h = (refl, refl)
one_sign NoneOf false h = absurd (both_ways false refl h)

-- to put in a label of one entry is to put in the entry
joined_one : (s : Bool) (a : ℕ) (acc : Label) → joined acc (put s a empty) ≡ put s a acc
unfolding put empty
joined_one true a acc = λ i. record { plus = ap (bit_or acc.plus) (or_zero_l (2 ^ a)) i; minus = or_zero_r acc.minus i }
joined_one false a acc = λ i. record { plus = or_zero_r acc.plus i; minus = ap (bit_or acc.minus) (or_zero_l (2 ^ a)) i }

-- an entry that restricts all successors with a sign does so with that sign alone
other_sign : (e : Entry) (s : Bool) → restricting_entry e s ≡ true → restricting_entry e (not s) ≡ false
other_sign (Plain Nothing) s h = refl
other_sign (Plain Everything) s h = refl
other_sign (Plain (Name n)) s h = refl
other_sign (Plain (Not a)) s h = refl
other_sign (Plain (And a b)) s h = refl
other_sign (Plain (Or a b)) s h = refl
other_sign (Plain (Restriction q t a)) s h = (one_sign q s h).1
other_sign (Inclusion c d) s h = refl
other_sign (Inclusions lo n) s h = refl

-- and tells what it says of its part, and what is told on of it
says : (H : RoleBox) (B : Table) (r : ℕ) (s : Bool) (i : ℕ) (e : Entry) (acc : Label) → restricting_entry e s ≡ true → H.below r (role_of e) ≡ true
    → told_by_entry H B r s i e acc ≡ told_further H B r s i (role_of e) (joined acc (said_of e))
says H B r s i (Plain Nothing) acc h low = absurd (both_ways false refl h)
says H B r s i (Plain Everything) acc h low = absurd (both_ways false refl h)
says H B r s i (Plain (Name n)) acc h low = absurd (both_ways false refl h)
says H B r s i (Plain (Not a)) acc h low = absurd (both_ways false refl h)
says H B r s i (Plain (And a b)) acc h low = absurd (both_ways false refl h)
says H B r s i (Plain (Or a b)) acc h low = absurd (both_ways false refl h)
says H B r s i (Plain (Restriction q t a)) acc h low =
    cond-true (not (obliges q s) && H.below r t) (told_further H B r s i t (put (sign_of q s) a acc)) acc (and_from (not (obliges q s)) (H.below r t) h low)
    ∙ ap (λ u. told_further H B r s i t (put (sign_of q u) a acc)) (one_sign q s h).0
    ∙ ap (told_further H B r s i t) (sym (joined_one (sign_of q (restricting_sign q)) a acc))
says H B r s i (Inclusion c d) acc h low = absurd (both_ways false refl h)
says H B r s i (Inclusions lo n) acc h low = absurd (both_ways false refl h)

-- one turn: what a restriction tells that the label holds, by a few operations on words
module _ (p : Plan) (l c : Label) (r i : ℕ) (acc : Label) (is : Restricts p l c) (few : r < 64) (inside : i < p.width) (above : has (get_or p.above r 0) i ≡ true) where
  abbrev pub made : Bool → Label
  made s = put_all s (bit_and (get_or p.passed_on i 0) (get_or p.above r 0)) (joined acc (get_or p.said i empty))

  tells : (s : Bool) → in_label c s i ≡ true → tell (box_in p) (table_in p) l r s i acc ≡ made s
  tells s h =
      let e = listed_entry p.entries i in
      let held = and_parts (in_label l s i) (restricting_entry e s) (sym (restricts_at p l c is s i inside) ∙ h) in
      cond-true (in_label l s i) (told_by_entry (box_in p) (table_in p) r s i e acc) acc held.0
      ∙ says (box_in p) (table_in p) r s i e acc held.1 (sym (above_at p r i few inside) ∙ above)
      ∙ ap (λ m. told_further (box_in p) (table_in p) r s i (listed_role p.entries i) (joined acc m)) (sym (p.said_is i))
      ∙ sym (told_set p r s i few inside above (joined acc (get_or p.said i empty)))

  silent_with : (s : Bool) → in_label c s i ≡ true → (m : Label) → tell (box_in p) (table_in p) l r (not s) i m ≡ m
  silent_with s h m =
      let e = listed_entry p.entries i in
      let held = and_parts (in_label l s i) (restricting_entry e s) (sym (restricts_at p l c is s i inside) ∙ h) in
      tell_unsaid (box_in p) (table_in p) l r (not s) i m (and_right (in_label l (not s) i) (restricting_entry e (not s)) (other_sign e s held.1))

  pub told_turn : (s : Bool) → s ≡ has c.plus i → (has c.plus i || has c.minus i) ≡ true → made s ≡ told_by_signs (box_in p) (table_in p) l r i acc
  told_turn true e h =
      let here = in_plus c true i refl ∙ sym e in
      sym (tells true here) ∙ ap (tell (box_in p) (table_in p) l r true i) (sym (silent_with true here acc))
  told_turn false e h =
      let here = in_minus c false i refl ∙ ⊎_elim (λ t. absurd (both_ways (has c.plus i) (sym e) t)) (λ t. t) (or_cases (has c.plus i) (has c.minus i) h) in
      sym (tells false here) ∙ sym (silent_with false here (tell (box_in p) (table_in p) l r false i acc))
