-- Labels by their signed entries.
use Rattle.std.proofs.Common.{◌≡◌, ℕ, zero, suc, ◌^◌, ◌<◌, Bool, true, false, ◌||◌, eqb, ◌⊎◌, List, [], ◌∷◌, ◌++◌, length, get_or, sym, refl, ap, ◌∙◌, subst, inl, inr, ⊎_elim, arith}
use lib.Bits.{bit_and, bit_or}
use Rattle.std.proofs.lemmas.Bool.{cases_Bool, and_parts, and_from, or_cases, or_left, or_right, eqb-true, eq-eqb, both_ways, cond-true, cond-false}
use Rattle.words.specs.Sets.{has}
use Rattle.words.proofs.Words.{has_or, has_none, has_single, subset_to, subset_from}
use Rattle.tableau.specs.declared.Label.{Label}
use Rattle.tableau.specs.Labels.{empty, in_label, put, contains, any_contains, lowest}
use Rattle.tableau.specs.Saturation.{Holds}

-- nothing is in the empty label
pub in_empty : {A : Type 0} (s : Bool) (i : ℕ) → in_label empty s i ≡ true → A
unfolding in_label empty
in_empty true i e = absurd (both_ways (has 0 i) (has_none i) e)
in_empty false i e = absurd (both_ways (has 0 i) (has_none i) e)

-- what a word has with one more member
put_word : (w i j : ℕ) → has (bit_or w (2 ^ i)) j ≡ (has w j || eqb j i)
put_word w i j = has_or w (2 ^ i) j ∙ ap (λ b. has w j || b) (has_single i j)

-- what is put in is in
pub put_in : (s : Bool) (i : ℕ) (l : Label) → in_label (put s i l) s i ≡ true
unfolding in_label put
put_in true i l = put_word l.plus i i ∙ or_right (has l.plus i) (eqb i i) (eq-eqb i i refl)
put_in false i l = put_word l.minus i i ∙ or_right (has l.minus i) (eqb i i) (eq-eqb i i refl)

-- what was in stays in
pub put_keeps : (s : Bool) (i : ℕ) (l : Label) (t : Bool) (j : ℕ) → in_label l t j ≡ true → in_label (put s i l) t j ≡ true
unfolding in_label put
put_keeps true i l true j e = put_word l.plus i j ∙ or_left (has l.plus j) (eqb j i) e
put_keeps true i l false j e = e
put_keeps false i l true j e = e
put_keeps false i l false j e = put_word l.minus i j ∙ or_left (has l.minus j) (eqb j i) e

-- what is in now was put in or was there
pub put_cases : (s : Bool) (i : ℕ) (l : Label) (t : Bool) (j : ℕ) → in_label (put s i l) t j ≡ true → ((t ≡ s) × (j ≡ i)) ⊎ (in_label l t j ≡ true)
unfolding in_label put
put_cases true i l true j e = ⊎_elim (λ h. inr h) (λ h. inl (refl, eqb-true j i h)) (or_cases (has l.plus j) (eqb j i) (sym (put_word l.plus i j) ∙ e))
put_cases true i l false j e = inr e
put_cases false i l true j e = inr e
put_cases false i l false j e = ⊎_elim (λ h. inr h) (λ h. inl (refl, eqb-true j i h)) (or_cases (has l.minus j) (eqb j i) (sym (put_word l.minus i j) ∙ e))

-- a label that contains a seed holds what the seed holds
pub contains_at : (l seed : Label) → contains l seed ≡ true → Holds l seed
unfolding in_label contains
contains_at l seed e true i h = subset_to seed.plus l.plus (and_parts _ _ e).0 i h
contains_at l seed e false i h = subset_to seed.minus l.minus (and_parts _ _ e).1 i h

-- and a label that holds what the seed holds contains it
pub contains_from : (l seed : Label) → Holds l seed → contains l seed ≡ true
unfolding in_label contains
contains_from l seed h =
    and_from (eqb (bit_and seed.plus l.plus) seed.plus) (eqb (bit_and seed.minus l.minus) seed.minus)
    (subset_from seed.plus l.plus (h true)) (subset_from seed.minus l.minus (h false))

-- the lowest label that contains the seed is there, and contains it
pub record There (st : List Label) (seed : Label) : Type 0 where
  pub inside : lowest st seed < length st
  pub holds_it : contains (get_or st (lowest st seed) empty) seed ≡ true

-- the first label of the list contains it
there_here : (l : Label) (st : List Label) (seed : Label) → contains l seed ≡ true → There (l ∷ st) seed
unfolding lowest
there_here l st seed h =
    let z : lowest (l ∷ st) seed ≡ 0 = cond-true (contains l seed) 0 (suc (lowest st seed)) h in
    record { inside = omega (arith, z); holds_it = subst (λ k. contains (get_or (l ∷ st) k empty) seed ≡ true) (sym z) h }

-- a later one does
there_later : (l : Label) (st : List Label) (seed : Label) → contains l seed ≡ false → There st seed → There (l ∷ st) seed
unfolding lowest
there_later l st seed h t =
    let z : lowest (l ∷ st) seed ≡ suc (lowest st seed) = cond-false (contains l seed) 0 (suc (lowest st seed)) h in
    record { inside = omega (arith, z, t.inside); holds_it = subst (λ k. contains (get_or (l ∷ st) k empty) seed ≡ true) (sym z) t.holds_it }

-- where a label of the list contains it, the lowest such does
pub lowest_there : (st : List Label) (seed : Label) → any_contains st seed ≡ true → There st seed
unfolding any_contains
lowest_there [] seed e = absurd (both_ways true (sym e) refl)
lowest_there (l ∷ st) seed e = ⊎_elim
    (λ h. there_here l st seed h)
    (λ h. there_later l st seed h (lowest_there st seed (sym (cond-false (contains l seed) true (any_contains st seed) h) ∙ e)))
    (cases_Bool (contains l seed))

-- a seed that is contained in a label of the list is contained in it when the list has grown
pub any_grows : (st more : List Label) (seed : Label) → any_contains st seed ≡ true → any_contains (st ++ more) seed ≡ true
unfolding any_contains
any_grows [] more seed e = absurd (both_ways true (sym e) refl)
any_grows (l ∷ st) more seed e = ⊎_elim
    (λ h. cond-true (contains l seed) true (any_contains (st ++ more) seed) h)
    (λ h. cond-false (contains l seed) true (any_contains (st ++ more) seed) h
    ∙ any_grows st more seed (sym (cond-false (contains l seed) true (any_contains st seed) h) ∙ e))
    (cases_Bool (contains l seed))

-- a label at a place that contains the seed
pub any_at : (st : List Label) (k : ℕ) (seed : Label) → k < length st → contains (get_or st k empty) seed ≡ true → any_contains st seed ≡ true
unfolding any_contains
any_at [] k seed l e = absurd (omega arith)
any_at (m ∷ st) zero seed l e = cond-true (contains m seed) true (any_contains st seed) e
any_at (m ∷ st) (suc k) seed l e = ⊎_elim
    (λ h. cond-true (contains m seed) true (any_contains st seed) h)
    (λ h. cond-false (contains m seed) true (any_contains st seed) h ∙ any_at st k seed (omega arith) e)
    (cases_Bool (contains m seed))

-- the lowest label that contains the seed is the lowest when the list has grown
pub lowest_stays : (st more : List Label) (seed : Label) → any_contains st seed ≡ true → lowest (st ++ more) seed ≡ lowest st seed
unfolding any_contains lowest
lowest_stays [] more seed e = absurd (both_ways true (sym e) refl)
lowest_stays (l ∷ st) more seed e = ⊎_elim
    (λ h. cond-true (contains l seed) 0 (suc (lowest (st ++ more) seed)) h ∙ sym (cond-true (contains l seed) 0 (suc (lowest st seed)) h))
    (λ h. cond-false (contains l seed) 0 (suc (lowest (st ++ more) seed)) h
    ∙ ap suc (lowest_stays st more seed (sym (cond-false (contains l seed) true (any_contains st seed) h) ∙ e))
    ∙ sym (cond-false (contains l seed) 0 (suc (lowest st seed)) h))
    (cases_Bool (contains l seed))

-- and where none contained it, the next one that does is the lowest
pub lowest_next : (st : List Label) (l : Label) (more : List Label) (seed : Label) → any_contains st seed ≡ false → contains l seed ≡ true
    → lowest (st ++ l ∷ more) seed ≡ length st
unfolding any_contains lowest
lowest_next [] l more seed e h = cond-true (contains l seed) 0 (suc (lowest more seed)) h
lowest_next (m ∷ st) l more seed e h = ⊎_elim
    (λ g. absurd (both_ways (any_contains (m ∷ st) seed) e (cond-true (contains m seed) true (any_contains st seed) g)))
    (λ g. cond-false (contains m seed) 0 (suc (lowest (st ++ l ∷ more) seed)) g
    ∙ ap suc (lowest_next st l more seed (sym (cond-false (contains m seed) true (any_contains st seed) g) ∙ e) h))
    (cases_Bool (contains m seed))
