-- Laws of membership in a word, from the laws of bits and halves.
use Rattle.std.proofs.Common.{◌≡◌, ℕ, zero, suc, ◌+◌, ◌-◌, ◌*◌, ◌/◌, ◌%◌, ◌^◌, ◌<◌, ◌≤◌, min, max, Bool, true, false, cond, not, ◌&&◌, ◌||◌, eqb, ltb, sym, refl, ap, ◌∙◌, subst, ⊎_elim, pow-suc, div-one, one-add, arith, pow_mono}
use lib.Bits.{bit_and, bit_or, and_step, or_step, and_mask, or_shifted}
use lib.Count.{count_leading_zeros, count_trailing_zeros, under}
use Rattle.std.proofs.lemmas.Nat.{shr-shr, pow_pos, leading_top}
use Rattle.std.proofs.lemmas.Bool.Decides.{nat_tests}
use Rattle.std.proofs.lemmas.Bool.{eqb-true, eq-eqb, ne_eqb, cases_eq, cases_lt, and_parts, lt-ltb, le-ltb}
use Rattle.words.specs.Sets.{has, Within, Disjoint, set_of, Comprehends}

pub has_test : (w k : ℕ) → eqb (bit_and (w / 2 ^ k) 1) 1 ≡ has w k
unfolding has
has_test w k = ap (λ n. eqb n 1) (and_mask (w / 2 ^ k) 1)

pub has_first : (w : ℕ) → has w zero ≡ eqb (w % 2) 1
unfolding has
has_first w = ap (λ n. eqb (n % 2) 1) (div-one w)

pub has_next : (w k : ℕ) → has w (suc k) ≡ has (w / 2) k
unfolding has
has_next w k = ap (λ n. eqb (n % 2) 1) (sym (shr-shr w 1 k ∙ ap (λ n. w / 2 ^ n) (one-add k)))

-- zero has no member
pub has_none : (k : ℕ) → has 0 k ≡ false
has_none zero = has_first 0
has_none (suc k) = has_next 0 k ∙ has_none k

-- a word below 2 ^ n has no member from n on
pub has_above : (n w k : ℕ) → w < 2 ^ n → n ≤ k → has w k ≡ false
has_above zero w k p q = let e : w ≡ 0 = omega arith in rw e (has_none k)
has_above (suc n) w zero p q = absurd (omega arith)
has_above (suc n) w (suc k) p q =
    let e = pow-suc 2 n in has_next w k ∙ has_above n (w / 2) k (omega arith) (omega arith)

step_or : (x y : ℕ) → x < 2 → y < 2 → eqb (max x y) 1 ≡ (eqb x 1 || eqb y 1)
step_or x y p q = grind (arith, nat_tests)

step_and : (x y : ℕ) → x < 2 → y < 2 → eqb (min x y) 1 ≡ (eqb x 1 && eqb y 1)
step_and x y p q = grind (arith, nat_tests)

-- the last bit of n * 2 + b is b
low_bit : (n m b : ℕ) → m ≡ n * 2 + b → b < 2 → (m % 2 ≡ b) × (m / 2 ≡ n)
low_bit n m b e l = (omega arith, omega arith)

pub has_or : (a b k : ℕ) → has (bit_or a b) k ≡ (has a k || has b k)
has_or a b zero =
    let s = low_bit (bit_or (a / 2) (b / 2)) (bit_or a b) (max (a % 2) (b % 2)) (or_step a b) (omega arith) in
    has_first (bit_or a b) ∙ ap (λ n. eqb n 1) s.0 ∙ step_or (a % 2) (b % 2) (omega arith) (omega arith)
    ∙ ap (λ x. x || eqb (b % 2) 1) (sym (has_first a)) ∙ ap (λ y. has a zero || y) (sym (has_first b))
has_or a b (suc k) =
    let s = low_bit (bit_or (a / 2) (b / 2)) (bit_or a b) (max (a % 2) (b % 2)) (or_step a b) (omega arith) in
    has_next (bit_or a b) k ∙ ap (λ n. has n k) s.1 ∙ has_or (a / 2) (b / 2) k
    ∙ ap (λ x. x || has (b / 2) k) (sym (has_next a k)) ∙ ap (λ y. has a (suc k) || y) (sym (has_next b k))

pub has_and : (a b k : ℕ) → has (bit_and a b) k ≡ (has a k && has b k)
has_and a b zero =
    let s = low_bit (bit_and (a / 2) (b / 2)) (bit_and a b) (min (a % 2) (b % 2)) (and_step a b) (omega arith) in
    has_first (bit_and a b) ∙ ap (λ n. eqb n 1) s.0 ∙ step_and (a % 2) (b % 2) (omega arith) (omega arith)
    ∙ ap (λ x. x && eqb (b % 2) 1) (sym (has_first a)) ∙ ap (λ y. has a zero && y) (sym (has_first b))
has_and a b (suc k) =
    let s = low_bit (bit_and (a / 2) (b / 2)) (bit_and a b) (min (a % 2) (b % 2)) (and_step a b) (omega arith) in
    has_next (bit_and a b) k ∙ ap (λ n. has n k) s.1 ∙ has_and (a / 2) (b / 2) k
    ∙ ap (λ x. x && has (b / 2) k) (sym (has_next a k)) ∙ ap (λ y. has a (suc k) && y) (sym (has_next b k))

-- 2 ^ k has k alone
pub has_single : (k j : ℕ) → has (2 ^ k) j ≡ eqb j k
has_single zero zero = has_first 1
has_single zero (suc j) = has_next 1 j ∙ has_none j ∙ sym (ne_eqb (suc j) 0 (omega arith))
has_single (suc k) zero =
    let e = pow-suc 2 k in has_first (2 ^ suc k) ∙ grind (arith, nat_tests)
has_single (suc k) (suc j) =
    let e = pow-suc 2 k in
    let h : 2 ^ suc k / 2 ≡ 2 ^ k = omega arith in
    has_next (2 ^ suc k) j ∙ ap (λ n. has n j) h ∙ has_single k j ∙ grind (arith, nat_tests)

-- 2 ^ n - 1 has the numbers below n
pub has_below : (n j : ℕ) → has (2 ^ n - 1) j ≡ ltb j n
has_below zero j = has_none j ∙ sym (le-ltb j 0 (omega arith))
has_below (suc n) zero =
    let e = pow-suc 2 n in let p = pow_pos n in
    has_first (2 ^ suc n - 1) ∙ grind (arith, nat_tests)
has_below (suc n) (suc j) =
    let e = pow-suc 2 n in let p = pow_pos n in
    let h : (2 ^ suc n - 1) / 2 ≡ 2 ^ n - 1 = omega arith in
    has_next (2 ^ suc n - 1) j ∙ ap (λ m. has m j) h ∙ has_below n j ∙ grind (arith, nat_tests)

-- the complement within n bits
pub has_not : (n w k : ℕ) → w < 2 ^ n → k < n → has ((2 ^ n - 1) - w) k ≡ not (has w k)
has_not zero w k p q = absurd (omega arith)
has_not (suc n) w zero p q =
    let e = pow-suc 2 n in
    has_first ((2 ^ suc n - 1) - w) ∙ low ∙ ap not (sym (has_first w))
  where
    low : eqb (((2 ^ suc n - 1) - w) % 2) 1 ≡ not (eqb (w % 2) 1)
    low = let e = pow-suc 2 n in let s = pow_pos n in grind (arith, nat_tests)
has_not (suc n) w (suc k) p q =
    let e = pow-suc 2 n in
    let h : ((2 ^ suc n - 1) - w) / 2 ≡ (2 ^ n - 1) - w / 2 = omega arith in
    has_next ((2 ^ suc n - 1) - w) k ∙ ap (λ m. has m k) h ∙ has_not n (w / 2) k (omega arith) (omega arith) ∙ ap not (sym (has_next w k))

-- two words of n bits with the same members are the same
pub same_set : (n a b : ℕ) → a < 2 ^ n → b < 2 ^ n → ((k : ℕ) → k < n → has a k ≡ has b k) → a ≡ b
same_set zero a b p q same = omega arith
same_set (suc n) a b p q same =
    let e = pow-suc 2 n in
    let halves = same_set n (a / 2) (b / 2) (omega arith) (omega arith) (λ k h. sym (has_next a k) ∙ same (suc k) (omega arith) ∙ has_next b k) in
    let first : eqb (a % 2) 1 ≡ eqb (b % 2) 1 = sym (has_first a) ∙ same zero (omega arith) ∙ has_first b in
    let low : a % 2 ≡ b % 2 = grind (arith, nat_tests, first) in
    omega arith

-- the lowest member of w, among n bits
pub record Lowest (n w t : ℕ) : Type 0 where
  pub inside : t < n
  pub first : has w t ≡ true
  pub least : (j : ℕ) → j < t → has w j ≡ false

lower_next : (n w t : ℕ) → w % 2 ≡ 0 → Lowest n (w / 2) t → Lowest (suc n) w (suc t)
lower_next n w t even l = record { inside = omega (arith, l.inside); first = has_next w t ∙ l.first; least = least }
  where
    least : (j : ℕ) → j < suc t → has w j ≡ false
    least zero h = has_first w ∙ ne_eqb (w % 2) 1 (omega arith)
    least (suc j) h = has_next w j ∙ l.least j (omega arith)

pub trailing_lowest : (n w : ℕ) → 0 < w → w < 2 ^ n → Lowest n w (count_trailing_zeros n w)
unfolding count_trailing_zeros
trailing_lowest zero w p q = absurd (omega arith)
trailing_lowest (suc n) w p q =
    let s = pow-suc 2 n in go (λ half. trailing_lowest n (w / 2) half (omega arith)) (w % 2) refl
  where
    go : (0 < w / 2 → Lowest n (w / 2) (count_trailing_zeros n (w / 2))) → (d : ℕ) → w % 2 ≡ d → Lowest (suc n) w (under d (count_trailing_zeros n (w / 2)))
    go rest zero e = lower_next n w (count_trailing_zeros n (w / 2)) e (rest (omega arith))
    go rest (suc d) e = record { inside = omega arith; first = has_first w ∙ eq-eqb (w % 2) 1 (omega arith); least = λ j h. absurd (omega arith) }

-- a word from 2 ^ j on and below 2 ^ (j + 1) has j
pub has_top : (j a : ℕ) → 2 ^ j ≤ a → a < 2 ^ suc j → has a j ≡ true
has_top zero a p q = has_first a ∙ eq-eqb (a % 2) 1 (omega arith)
has_top (suc j) a p q =
    let e = pow-suc 2 j in let f = pow-suc 2 (suc j) in
    has_next a j ∙ has_top j (a / 2) (omega arith) (omega arith)

-- the highest member of a word of 64 bits
pub record Highest (w t : ℕ) : Type 0 where
  pub inside : t < 64
  pub last : has w t ≡ true
  pub most : (j : ℕ) → t < j → has w j ≡ false

pub leading_highest : (w : ℕ) → 0 < w → w < 2 ^ 64 → Highest w (63 - count_leading_zeros 64 w)
leading_highest w p q =
    let s = leading_top 64 w p q in
    let e : s.0 ≡ 63 - count_leading_zeros 64 w = omega (arith, s.1) in
    subst (λ t. Highest w t) e
    (record {
      inside = omega (arith, s.1);
      last = has_top s.0 w s.2 s.3;
      most = λ j h. has_above (suc s.0) w j s.3 (omega arith);
    })

pub less_than_power : (n : ℕ) → n < 2 ^ n
less_than_power zero = omega arith
less_than_power (suc n) = let e = pow-suc 2 n in let h = less_than_power n in omega arith

-- numbers with the same members are the same
pub same_word : (a b : ℕ) → ((k : ℕ) → has a k ≡ has b k) → a ≡ b
same_word a b same =
    let p = less_than_power (a + b) in
    same_set (a + b) a b (omega arith) (omega arith) (λ k h. same k)

-- a subset, by the intersection
pub subset_to : (a b : ℕ) → eqb (bit_and a b) a ≡ true → Within a b
subset_to a b e j h =
    let same = eqb-true (bit_and a b) a e in
    (and_parts (has a j) (has b j) (sym (has_and a b j) ∙ ap (λ n. has n j) same ∙ h)).1

pub subset_from : (a b : ℕ) → Within a b → eqb (bit_and a b) a ≡ true
subset_from a b w = eq-eqb (bit_and a b) a (same_word (bit_and a b) a (λ k. has_and a b k ∙ kept (has a k) (has b k) (w k)))
  where
    kept : (x y : Bool) → (x ≡ true → y ≡ true) → (x && y) ≡ x
    kept true y f = f refl
    kept false y f = refl

pub disjoint_to : (a b : ℕ) → eqb (bit_and a b) 0 ≡ true → Disjoint a b
disjoint_to a b e j = sym (has_and a b j) ∙ ap (λ n. has n j) (eqb-true (bit_and a b) 0 e) ∙ has_none j

pub disjoint_from : (a b : ℕ) → Disjoint a b → eqb (bit_and a b) 0 ≡ true
disjoint_from a b d = eq-eqb (bit_and a b) 0 (same_word (bit_and a b) 0 (λ k. has_and a b k ∙ d k ∙ sym (has_none k)))

-- 2 ^ n and a smaller word
pub has_high : (n w j : ℕ) → w < 2 ^ n → has (w + 2 ^ n) j ≡ (eqb j n || has w j)
has_high n w j l =
    let e : bit_or (1 * 2 ^ n) w ≡ w + 2 ^ n = or_shifted 1 n w l ∙ omega arith in
    let f : 1 * 2 ^ n ≡ 2 ^ n = omega arith in
    ap (λ v. has v j) (sym e) ∙ has_or (1 * 2 ^ n) w j ∙ ap (λ b. b || has w j) (ap (λ v. has v j) f ∙ has_single n j)

more_out : (n j : ℕ) (p : ℕ → Bool) → p n ≡ false → (ltb j n && p j) ≡ (ltb j (suc n) && p j)
more_out n j p e = ⊎_elim
    (λ (same : j ≡ n). rw same (rw e (both_false (ltb n n) (ltb n (suc n)))))
    (λ other. ap (λ b. b && p j) (grind (arith, nat_tests)))
    (cases_eq j n)
  where
    both_false : (x y : Bool) → (x && false) ≡ (y && false)
    both_false true true = refl
    both_false true false = refl
    both_false false true = refl
    both_false false false = refl

more_in : (n j : ℕ) (p : ℕ → Bool) → p n ≡ true → (eqb j n || (ltb j n && p j)) ≡ (ltb j (suc n) && p j)
more_in n j p e = ⊎_elim
    (λ (same : j ≡ n). rw same (rw e (grind (arith, nat_tests))))
    (λ other. grind (arith, nat_tests))
    (cases_eq j n)

pub comprehends : (n : ℕ) (p : ℕ → Bool) → Comprehends n p
unfolding set_of
comprehends zero p = record { fits = omega arith; members = λ j. has_none j ∙ grind (arith, nat_tests) }
comprehends (suc n) p = go (comprehends n p) (p n) refl
  where
    go : Comprehends n p → (b : Bool) → p n ≡ b → Comprehends (suc n) p
    go c true e =
        let s = pow-suc 2 n in
        let h = c.fits in
        let is : set_of n p + cond (p n) (2 ^ n) 0 ≡ set_of n p + 2 ^ n = ap (λ b. set_of n p + cond b (2 ^ n) 0) e in
        record {
          fits = omega (arith, is);
          members = λ j. ap (λ v. has v j) is ∙ has_high n (set_of n p) j h ∙ ap (λ b. eqb j n || b) (c.members j) ∙ more_in n j p e;
        }
    go c false e =
        let s = pow-suc 2 n in
        let h = c.fits in
        let is : set_of n p + cond (p n) (2 ^ n) 0 ≡ set_of n p = ap (λ b. set_of n p + cond b (2 ^ n) 0) e ∙ omega arith in
        record { fits = omega (arith, is); members = λ j. ap (λ v. has v j) is ∙ c.members j ∙ more_out n j p e }

-- a word with those members is that word
pub set_is : (n w : ℕ) (p : ℕ → Bool) → n ≤ 64 → w < 2 ^ 64 → ((j : ℕ) → has w j ≡ (ltb j n && p j)) → w ≡ set_of n p
set_is n w p few l same =
    let c = comprehends n p in
    let m = pow_mono few in
    same_set 64 w (set_of n p) l (omega (arith, c.fits, m)) (λ k h. same k ∙ sym (c.members k))

-- a set that agrees with a test below n, and has nothing from n on
pub collected : (n w : ℕ) (p : ℕ → Bool) → ((k : ℕ) → k < n → has w k ≡ p k) → ((k : ℕ) → n ≤ k → has w k ≡ false) → (j : ℕ) → has w j ≡ (ltb j n && p j)
collected n w p inside outside j = ⊎_elim
    (λ lt. inside j lt ∙ sym (ap (λ b. b && p j) (lt-ltb j n lt)))
    (λ ge. outside j ge ∙ sym (ap (λ b. b && p j) (le-ltb j n ge)))
    (cases_lt j n)
