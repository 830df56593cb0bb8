-- A fold that passes over the numbers at which its step does nothing.
use Rattle.std.proofs.Common.{◌≡◌, ℕ, zero, suc, ◌+◌, ◌-◌, ◌<◌, ◌≤◌, Bool, true, false, ◌&&◌, ◌||◌, ltb, get_or, sym, ap, ◌∙◌, add-zero, add-suc, add-one, arith}
use lib.Bits.{bit_and}
use Rattle.std.proofs.lemmas.Bool.{and_parts, ltb-true}
use Rattle.words.specs.Sets.{has}
use Rattle.tableau.specs.declared.Label.{Label}
use Rattle.tableau.specs.Folds.{fold}
use Rattle.tableau.specs.Labels.{empty, put, put_all, joined}
use Rattle.tableau.specs.Seeds.{seed_of}
use Rattle.plan.specs.declared.Plan.{Plan}
use Rattle.plan.specs.Meanings.{table_in, box_in}
use Rattle.plan.specs.Plans.{listed_role}
use Rattle.successor.proofs.Emptying.{NoneFrom, NextFrom}
use Rattle.successor.proofs.Propagating.{Restricts, told_by_signs, tells_nothing, told_turn}

skip_by : {A : Type 0} (f : ℕ → A → A) (a : A) (i d : ℕ) → ((j : ℕ) → i ≤ j → j < i + d → (x : A) → f j x ≡ x) → fold (i + d) f a ≡ fold i f a
unfolding fold
skip_by f a i zero none = ap (λ n. fold n f a) (add-zero i)
skip_by f a i (suc d) none =
    ap (λ n. fold n f a) (add-suc i d) ∙ none (i + d) (omega arith) (omega arith) (fold (i + d) f a)
    ∙ skip_by f a i d (λ j g h. none j g (omega arith))

-- where the steps from i up to k do nothing, the fold up to k is that up to i
pub fold_skips : {A : Type 0} (f : ℕ → A → A) (a : A) (i k : ℕ) → i ≤ k → ((j : ℕ) → i ≤ j → j < k → (x : A) → f j x ≡ x) → fold k f a ≡ fold i f a
fold_skips f a i k l none =
    let e : i + (k - i) ≡ k = omega arith in
    ap (λ n. fold n f a) (sym e) ∙ skip_by f a i (k - i) (λ j g h. none j g (omega arith))

-- the members of the set are those signed entries of the label that restrict all successors and whose role is above r: c has
-- the former
abbrev pub Telling : Plan → Label → Label → ℕ → ℕ → Type 0
Telling p l c r set = Restricts p l c × ((j : ℕ) → has set j ≡ ((has c.plus j || has c.minus j) && has (get_or p.above r 0) j))

pub telling_from : (p : Plan) (l c : Label) (r all set : ℕ) → Restricts p l c → ((j : ℕ) → has all j ≡ (has c.plus j || has c.minus j))
    → ((j : ℕ) → has set j ≡ (has all j && has (get_or p.above r 0) j)) → Telling p l c r set
telling_from p l c r all set told is both = (told, λ j. both j ∙ ap (λ b. b && has (get_or p.above r 0) j) (is j))

-- the state after the entries below `start`
abbrev pub Told : Plan → Label → ℕ → Label → ℕ → Label → Type 0
Told p l r init start acc = (acc ≡ fold start (told_by_signs (box_in p) (table_in p) l r) init) × (start ≤ p.width)

module _ (p : Plan) (l c : Label) (r : ℕ) (init : Label) (set : ℕ) (few : r < 64) (telling : Telling p l c r set) where
  silent : (j : ℕ) → j < p.width → has set j ≡ false → (acc : Label) → told_by_signs (box_in p) (table_in p) l r j acc ≡ acc
  silent j h e = tells_nothing p l c r j telling.0 few h (sym (telling.1 j) ∙ e)

  member_parts : (i : ℕ) → has set i ≡ true → ((has c.plus i || has c.minus i) ≡ true) × (has (get_or p.above r 0) i ≡ true)
  member_parts i e = and_parts (has c.plus i || has c.minus i) (has (get_or p.above r 0) i) (sym (telling.1 i) ∙ e)

  -- a member of the set is an entry of the plan
  pub telling_in : (i : ℕ) → has set i ≡ true → i < p.width
  telling_in i e =
      let above = (member_parts i e).1 in
      ltb-true i p.width (and_parts (ltb i p.width) (has (get_or p.rows r 0) (listed_role p.entries i)) (sym (p.above_is r i few) ∙ above)).0

  -- one turn: the next member tells what it has to
  pub told_next : (start i : ℕ) (acc next : Label) (s : Bool) → Told p l r init start acc → NextFrom set start i → s ≡ has c.plus i
      → next ≡ put_all s (bit_and (get_or p.passed_on i 0) (get_or p.above r 0)) (joined acc (get_or p.said i empty)) → Told p l r init (i + 1) next
  unfolding fold
  told_next start i acc next s t n is made =
      let w = telling_in i n.member in
      let m = member_parts i n.member in
      let e = made ∙ told_turn p l c r i acc telling.0 few w m.1 s is m.0 in
      let f = told_by_signs (box_in p) (table_in p) l r in
      (e ∙ ap (f i) (t.0 ∙ sym (fold_skips f init start i n.after (λ j g h. silent j (omega arith) (n.between j g h)))) ∙ ap (λ k. fold k f init) (sym (add-one i)), omega arith)

  -- the end: no member is left
  pub told_all : (start : ℕ) (acc : Label) → Told p l r init start acc → NoneFrom set start → acc ≡ fold p.width (told_by_signs (box_in p) (table_in p) l r) init
  told_all start acc t none =
      let f = told_by_signs (box_in p) (table_in p) l r in
      t.0 ∙ sym (fold_skips f init start p.width t.1 (λ j g h. silent j h (none j g)))

pub seed_is : (p : Plan) (l : Label) (r : ℕ) (s : Bool) (a : ℕ) (init acc : Label) → init ≡ put s a (record { plus = 0; minus = 0 })
    → acc ≡ fold p.width (told_by_signs (box_in p) (table_in p) l r) init → acc ≡ seed_of (box_in p) (table_in p) l r s a
unfolding seed_of empty
seed_is p l r s a init acc e f = f ∙ ap (fold p.width (told_by_signs (box_in p) (table_in p) l r)) e
