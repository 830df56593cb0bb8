-- What is left of a set when its lowest members are taken, one by one.
use Rattle.std.proofs.Common.{◌≡◌, ℕ, ◌+◌, ◌^◌, ◌<◌, ◌≤◌, Bool, true, false, not, ◌&&◌, ◌||◌, eqb, leb, ltb, sym, refl, ap, ◌∙◌, ap₂, ⊎_elim, arith}
use lib.Bits.{bit_and, bit_or}
use Rattle.std.proofs.lemmas.Nat.{or_disjoint}
use Rattle.std.proofs.lemmas.Bool.{cases_eq, cases_lt}
use Rattle.std.proofs.lemmas.Bool.Decides.{nat_tests}
use Rattle.words.specs.Sets.{has}
use Rattle.words.proofs.Words.{has_none, has_or, has_and, has_single, less_than_power, same_word}
use Rattle.successor.specs.Sets.{TakesLowest}

-- no number from `start` on is in the set
abbrev pub NoneFrom : ℕ → ℕ → Type 0
NoneFrom set start = (j : ℕ) → start ≤ j → has set j ≡ false

-- i is the lowest member of the set from `start` on
pub record NextFrom (set start i : ℕ) : Type 0 where
  pub after : start ≤ i
  pub inside : i < 64
  pub member : has set i ≡ true
  pub between : (j : ℕ) → start ≤ j → j < i → has set j ≡ false

-- without one of its members a set is a lesser number
pub less_without : (set i rest : ℕ) → has set i ≡ true → ((j : ℕ) → has rest j ≡ (has set j && not (eqb j i))) → rest < set
less_without set i rest member left =
    let apart = same_word (bit_and rest (2 ^ i)) 0 (λ k. has_and rest (2 ^ i) k ∙ ap₂ (λ a b. a && b) (left k) (has_single i k) ∙ none (has set k) (eqb k i) ∙ sym (has_none k)) in
    let whole = same_word (bit_or rest (2 ^ i)) set (λ k. has_or rest (2 ^ i) k ∙ ap₂ (λ a b. a || b) (left k) (has_single i k) ∙ back k) in
    omega (arith, or_disjoint rest (2 ^ i) apart, whole, less_than_power i)
  where
    none : (a b : Bool) → ((a && not b) && b) ≡ false
    none true true = refl
    none true false = refl
    none false b = refl

    back : (k : ℕ) → ((has set k && not (eqb k i)) || eqb k i) ≡ has set k
    back k = ⊎_elim (λ (same : k ≡ i). rw same (grind (arith, nat_tests, member))) (λ other. grind (arith, nat_tests)) (cases_eq k i)

-- the members of the set from `start` on are left
pub record Left (set start rest : ℕ) : Type 0 where
  pub are : (j : ℕ) → has rest j ≡ (has set j && leb start j)

pub left_all : (set : ℕ) → Left set 0 set
left_all set = record { are = λ j. grind (arith, nat_tests) }

pub left_from : (set low rest start : ℕ) → ((j : ℕ) → has low j ≡ ltb j start) → ((j : ℕ) → has rest j ≡ (has set j && not (has low j))) → Left set start rest
left_from set low rest start below is = record { are = λ j. is j ∙ ap (λ b. has set j && not b) (below j) ∙ grind (arith, nat_tests) }

-- the lowest that is left is the next of the set
pub left_next : (set start rest i after : ℕ) → Left set start rest → TakesLowest rest i after → NextFrom set start i
left_next set start rest i after l t =
    let m = sym (l.are i) ∙ t.member in
    record {
      after = grind (arith, nat_tests, m);
      inside = t.inside;
      member = grind (arith, nat_tests, m);
      between = λ j from to. let n = sym (l.are j) ∙ t.before j to in grind (arith, nat_tests, n);
    }

pub left_after : (set start rest i after : ℕ) → Left set start rest → TakesLowest rest i after → Left set (i + 1) after
left_after set start rest i after l t =
    record { are = λ j. t.left j ∙ ap (λ b. b && not (eqb j i)) (l.are j) ∙ same j (left_next set start rest i after l t).after }
  where
    same : (j : ℕ) → start ≤ i → (has set j && leb start j && not (eqb j i)) ≡ (has set j && leb (i + 1) j)
    same j h = ⊎_elim (λ low. let n = sym (l.are j) ∙ t.before j low in grind (arith, nat_tests, n)) (λ high. grind (arith, nat_tests)) (cases_lt j i)

-- where nothing is left, none of the set is from `start` on
pub left_none : (set start rest : ℕ) → Left set start rest → rest ≡ 0 → NoneFrom set start
left_none set start rest l gone j from = let n = sym (l.are j) ∙ ap (λ w. has w j) gone ∙ has_none j in grind (arith, nat_tests, n)
