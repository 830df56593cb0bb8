-- A run of entries put into a label, as one word.
use Rattle.std.proofs.Common.{◌≡◌, ℕ, zero, suc, ◌+◌, ◌^◌, ◌<◌, ◌≤◌, Bool, true, not, ◌&&◌, ◌||◌, eqb, ltb, sym, refl, ap, ◌∙◌, ap₂, arith}
use lib.Bits.{bit_or, or_lt}
use lib.Pow.{pow-lt}
use Rattle.std.proofs.lemmas.Bool.Decides.{nat_tests}
use Rattle.words.specs.Sets.{has}
use Rattle.words.proofs.Words.{has_or, has_single, same_set}
use Rattle.tableau.specs.declared.Label.{Label}
use Rattle.tableau.specs.Folds.{fold}
use Rattle.tableau.specs.Labels.{put, put_all}

-- j is one of the n numbers from lo on
abbrev pub in_run : ℕ → ℕ → ℕ → Bool
in_run lo n j = ltb j (lo + n) && not (ltb j lo)

none_run : (lo j : ℕ) (h : Bool) → h ≡ (h || in_run lo 0 j)
none_run lo j h = grind (arith, nat_tests)

more_run : (lo n j : ℕ) (h : Bool) → ((h || in_run lo n j) || eqb j (lo + n)) ≡ (h || in_run lo (suc n) j)
more_run lo n j h = grind (arith, nat_tests)

-- the label with the n entries from lo on, with +, in it too
record Ranged (lo n : ℕ) (l m : Label) : Type 0 where
  plus_has : (j : ℕ) → has m.plus j ≡ (has l.plus j || in_run lo n j)
  fits : m.plus < 2 ^ 64
  minus_is : m.minus ≡ l.minus

ranged : (lo n : ℕ) (l : Label) → l.plus < 2 ^ 64 → lo + n ≤ 64 → Ranged lo n l (fold n (λ k. put true (lo + k)) l)
unfolding fold put
ranged lo zero l p few = record { plus_has = λ j. none_run lo j (has l.plus j); fits = p; minus_is = refl }
ranged lo (suc n) l p few =
    let m = fold n (λ k. put true (lo + k)) l in
    let r = ranged lo n l p (omega arith) in
    let q : lo + n < 64 = omega arith in
    record {
      plus_has = λ j.
          has_or m.plus (2 ^ (lo + n)) j
          ∙ ap₂ (λ a b. a || b) (r.plus_has j) (has_single (lo + n) j)
          ∙ more_run lo n j (has l.plus j);
      fits = or_lt 64 m.plus (2 ^ (lo + n)) r.fits (pow-lt q);
      minus_is = r.minus_is;
    }

pub run_is : (lo n run : ℕ) (l : Label) → l.plus < 2 ^ 64 → lo + n ≤ 64 → run < 2 ^ 64 → ((j : ℕ) → has run j ≡ in_run lo n j)
    → put_all true run l ≡ fold n (λ k. put true (lo + k)) l
run_is lo n run l p few q h =
    let r = ranged lo n l p few in
    let m = fold n (λ k. put true (lo + k)) l in
    let a : bit_or l.plus run ≡ m.plus =
    same_set 64 (bit_or l.plus run) m.plus (or_lt 64 l.plus run p q) r.fits (λ j lt. has_or l.plus run j ∙ ap (λ b. has l.plus j || b) (h j) ∙ sym (r.plus_has j)) in
    ap₂ (λ x y. record { plus = x; minus = y }) a (sym r.minus_is)
