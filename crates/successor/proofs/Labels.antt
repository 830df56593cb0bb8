-- A label by its two words, and whole sets put into it.
use Rattle.std.proofs.Common.{◌≡◌, ℕ, zero, suc, ◌+◌, ◌^◌, ◌<◌, Bool, true, false, cond, ◌||◌, eqb, sym, refl, ap, ◌∙◌, add-zero, pow-suc, arith}
use lib.Bits.{bit_or, or_zero_r}
use Rattle.words.specs.Sets.{has, set_of}
use Rattle.words.proofs.Words.{has_or, has_single, has_high, same_word, comprehends}
use Rattle.tableau.specs.declared.Label.{Label}
use Rattle.tableau.specs.Folds.{fold}
use Rattle.tableau.specs.Labels.{in_label, put, put_all}

pub in_plus : (l : Label) (s : Bool) (i : ℕ) → s ≡ true → in_label l s i ≡ has l.plus i
unfolding in_label
in_plus l s i e = rw e refl

pub in_minus : (l : Label) (s : Bool) (i : ℕ) → s ≡ false → in_label l s i ≡ has l.minus i
unfolding in_label
in_minus l s i e = rw e refl

-- a set with one more member, put into a word
join_more : (w n x : ℕ) → x < 2 ^ n → bit_or (bit_or w x) (2 ^ n) ≡ bit_or w (x + 2 ^ n)
join_more w n x l = same_word (bit_or (bit_or w x) (2 ^ n)) (bit_or w (x + 2 ^ n)) (λ k.
    has_or (bit_or w x) (2 ^ n) k ∙ ap (λ b. b || has (2 ^ n) k) (has_or w x k) ∙ ap (λ b. (has w k || has x k) || b) (has_single n k)
    ∙ regroup (has w k) (has x k) (eqb k n)
    ∙ ap (λ b. has w k || b) (sym (has_high n x k l)) ∙ sym (has_or w (x + 2 ^ n) k))
  where
    regroup : (a b c : Bool) → ((a || b) || c) ≡ (a || (c || b))
    regroup true b c = refl
    regroup false true true = refl
    regroup false true false = refl
    regroup false false true = refl
    regroup false false false = refl

put_none : (s : Bool) (l : Label) → put_all s 0 l ≡ l
put_none true l = ap (λ w. record { plus = w; minus = l.minus }) (or_zero_r l.plus)
put_none false l = ap (λ w. record { plus = l.plus; minus = w }) (or_zero_r l.minus)

put_more : (s : Bool) (n x : ℕ) (l : Label) → x < 2 ^ n → put s n (put_all s x l) ≡ put_all s (x + 2 ^ n) l
unfolding put
put_more true n x l h = ap (λ w. record { plus = w; minus = l.minus }) (join_more l.plus n x h)
put_more false n x l h = ap (λ w. record { plus = l.plus; minus = w }) (join_more l.minus n x h)

-- to put in, one by one, the numbers below n of which p holds is to put in their set
pub fold_puts : (n : ℕ) (p : ℕ → Bool) (s : Bool) (l : Label) → fold n (λ j acc. cond (p j) (put s j acc) acc) l ≡ put_all s (set_of n p) l
unfolding fold set_of
fold_puts zero p s l = sym (put_none s l)
fold_puts (suc n) p s l = ap (λ acc. cond (p n) (put s n acc) acc) (fold_puts n p s l) ∙ one (p n)
  where
    one : (b : Bool) → cond b (put s n (put_all s (set_of n p) l)) (put_all s (set_of n p) l) ≡ put_all s (set_of n p + cond b (2 ^ n) 0) l
    one true = put_more s n (set_of n p) l (comprehends n p).fits
    one false = ap (λ w. put_all s w l) (sym (add-zero (set_of n p)))
