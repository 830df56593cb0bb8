-- What making a sheet rests on: a word's bits below m, and the place of a first one.
use Rattle.std.proofs.Common.{◌≡◌, ℕ, ◌-◌, ◌%◌, ◌^◌, ◌<◌, eqb, ltb, sym, ap, ◌∙◌, ⊎_elim, mod-eq_of_lt, arith}
use lib.Bits.{bit_and}
use Rattle.std.proofs.lemmas.Nat.{and_mask, pow_pos, mod_below}
use Rattle.std.proofs.lemmas.Bool.{cases_lt, eq-eqb, ne_eqb, lt-ltb, le-ltb}

-- a word is within the first m bits exactly where it is below 2 ^ m
pub kept_below : (w m : ℕ) → eqb (bit_and w (2 ^ m - 1)) w ≡ ltb w (2 ^ m)
kept_below w m = ap (λ n. eqb n w) (and_mask w m) ∙ ⊎_elim
    (λ (lt : w < 2 ^ m). eq-eqb (w % 2 ^ m) w (mod-eq_of_lt lt) ∙ sym (lt-ltb w (2 ^ m) lt))
    (λ ge. let p = mod_below w (2 ^ m) (pow_pos m) in ne_eqb (w % 2 ^ m) w (λ e. omega arith) ∙ sym (le-ltb w (2 ^ m) ge))
    (cases_lt w (2 ^ m))
