-- Sets of individuals as words: one more number, the concepts' kinds, and quantifiers.
use Rattle.std.proofs.Common.{◌≡◌, ℕ, zero, suc, ◌+◌, ◌^◌, ◌<◌, ◌≤◌, Bool, true, false, cond, not, ◌&&◌, ◌||◌, ltb, Decides, sym, refl, ap, ◌∙◌, subst, ⊎_elim, arith}
use Rattle.std.proofs.lemmas.Bool.{cases_lt, lt-ltb, le-ltb, and_left, or_from, both_ways}
use Rattle.std.proofs.lemmas.Bool.Decides.{same_from_decides}
use Rattle.words.specs.Sets.{has, set_of, Within, Disjoint}
use Rattle.words.proofs.Words.{has_none, has_above, comprehends, set_is}
use Rattle.meaning.specs.Bounded.{any, all}
use Rattle.meaning.proofs.Tests.{all_from, all_at}
use Rattle.meaning.proofs.Implying.{implied, implies}

pub set_fits : (n : ℕ) (p : ℕ → Bool) → set_of n p < 2 ^ n
set_fits n p = (comprehends n p).fits

-- sets of the same numbers below n are the same
pub set_same : (n : ℕ) (p q : ℕ → Bool) → ((k : ℕ) → k < n → p k ≡ q k) → set_of n p ≡ set_of n q
unfolding set_of
set_same zero p q e = refl
set_same (suc n) p q e =
    ap (λ v. v + cond (p n) (2 ^ n) 0) (set_same n p q (λ k h. e k (omega arith)))
    ∙ ap (λ b. set_of n q + cond b (2 ^ n) 0) (e n (omega arith))

-- where a is below b, to test it changes no set
pub set_tested : (n a b : ℕ) (p : ℕ → Bool) → a < b → set_of n (λ k. ltb a b && p k) ≡ set_of n p
set_tested n a b p l = ap (λ t. set_of n (λ k. t && p k)) (lt-ltb a b l)

-- a number below n is in the set of p where p holds of it
pub has_set : (n k : ℕ) (p : ℕ → Bool) → k < n → has (set_of n p) k ≡ p k
has_set n k p l = (comprehends n p).members k ∙ ap (λ b. b && p k) (lt-ltb k n l)

pub past_set : (n k : ℕ) (p : ℕ → Bool) → n ≤ k → has (set_of n p) k ≡ false
past_set n k p l = (comprehends n p).members k ∙ ap (λ b. b && p k) (le-ltb k n l)

-- the quantifiers, by de Morgan
pub any_not_all : (n : ℕ) (p q : ℕ → Bool) → any n (λ y. p y && q y) ≡ not (all n (λ y. not (p y) || not (q y)))
unfolding any all
any_not_all zero p q = refl
any_not_all (suc n) p q =
    ap (λ b. (p n && q n) || b) (any_not_all n p q) ∙ morgan (p n) (q n) (all n (λ y. not (p y) || not (q y)))
  where
    morgan : (a b c : Bool) → ((a && b) || not c) ≡ not ((not a || not b) && c)
    morgan true true c = refl
    morgan true false c = refl
    morgan false b c = refl

neither : (a b : Bool) → (a && b) ≡ false → (not a || not b) ≡ true
neither true true e = sym e
neither true false e = refl
neither false b e = refl

from_neither : (a b : Bool) → (not a || not b) ≡ true → (a && b) ≡ false
from_neither true true e = sym e
from_neither true false e = refl
from_neither false b e = refl

-- a row that is the set of p, against another set
module _ (m : ℕ) (p : ℕ → Bool) (part : ℕ) where
  within_all : Decides (all m (λ y. not (p y) || has part y)) (Within (set_of m p) part)
  within_all = (
    (λ e j h. ⊎_elim
        (λ l. implied (p j) (has part j) (all_at m (λ y. not (p y) || has part y) e j l) (sym (has_set m j p l) ∙ h))
        (λ g. absurd (both_ways (has (set_of m p) j) (past_set m j p g) h))
        (cases_lt j m)),
    (λ w. all_from m (λ y. not (p y) || has part y) (λ k l. implies (p k) (has part k) (λ h. w k (has_set m k p l ∙ h)))),
  )

  disjoint_all : Decides (all m (λ y. not (p y) || not (has part y))) (Disjoint (set_of m p) part)
  disjoint_all = (
    (λ e j. ⊎_elim
        (λ l. ap (λ b. b && has part j) (has_set m j p l)
        ∙ from_neither (p j) (has part j) (all_at m (λ y. not (p y) || not (has part y)) e j l))
        (λ g. ap (λ b. b && has part j) (past_set m j p g))
        (cases_lt j m)),
    (λ d. all_from m (λ y. not (p y) || not (has part y))
        (λ k l. neither (p k) (has part k) (ap (λ b. b && has part k) (sym (has_set m k p l)) ∙ d k))),
  )

  pub forall_is : (row : ℕ) (b : Bool) → row ≡ set_of m p → Decides b (Within row part) → b ≡ all m (λ y. not (p y) || has part y)
  forall_is row b e d =
      same_from_decides b _ (subst (λ w. Decides b (Within w part)) e d) within_all

  pub none_is : (row : ℕ) (b : Bool) → row ≡ set_of m p → Decides b (Disjoint row part) → b ≡ all m (λ y. not (p y) || not (has part y))
  none_is row b e d =
      same_from_decides b _ (subst (λ w. Decides b (Disjoint w part)) e d) disjoint_all

  pub exists_is : (row : ℕ) (b : Bool) → row ≡ set_of m p → Decides b (Disjoint row part) → not b ≡ any m (λ y. p y && has part y)
  exists_is row b e d = ap not (none_is row b e d) ∙ sym (any_not_all m p (has part))

-- the sets of the plain kinds, from the sets of their parts
masked : (m j : ℕ) (t : Bool) → (m ≤ j → t ≡ false) → t ≡ (ltb j m && t)
masked m j t past = ⊎_elim
    (λ l. sym (ap (λ b. b && t) (lt-ltb j m l)))
    (λ g. past g ∙ sym (ap (λ b. b && t) (le-ltb j m g)))
    (cases_lt j m)

pub none_set : (m : ℕ) → m ≤ 64 → 0 ≡ set_of m (λ x. false)
none_set m few = set_is m 0 (λ x. false) few (omega arith) (λ j. has_none j ∙ masked m j false (λ _. refl))

pub every_set : (m w : ℕ) → m ≤ 64 → w < 2 ^ 64 → ((j : ℕ) → has w j ≡ ltb j m) → w ≡ set_of m (λ x. true)
every_set m w few l e = set_is m w (λ x. true) few l (λ j. e j ∙ whole (ltb j m))
  where
    whole : (b : Bool) → b ≡ (b && true)
    whole true = refl
    whole false = refl

pub not_set : (m w whole a : ℕ) → m ≤ 64 → w < 2 ^ 64 → ((j : ℕ) → has whole j ≡ ltb j m)
    → ((j : ℕ) → has w j ≡ (has whole j && not (has a j))) → w ≡ set_of m (λ x. not (has a x))
not_set m w whole a few l f e =
    set_is m w (λ x. not (has a x)) few l (λ j. e j ∙ ap (λ b. b && not (has a j)) (f j))

pub and_set : (m w a b : ℕ) → m ≤ 64 → w < 2 ^ 64 → a < 2 ^ m → ((j : ℕ) → has w j ≡ (has a j && has b j))
    → w ≡ set_of m (λ x. has a x && has b x)
and_set m w a b few l u e =
    set_is m w (λ x. has a x && has b x) few l
    (λ j. e j ∙ masked m j (has a j && has b j) (λ g. and_left (has a j) (has b j) (has_above m a j u g)))

pub or_set : (m w a b : ℕ) → m ≤ 64 → w < 2 ^ 64 → a < 2 ^ m → b < 2 ^ m → ((j : ℕ) → has w j ≡ (has a j || has b j))
    → w ≡ set_of m (λ x. has a x || has b x)
or_set m w a b few l u v e =
    set_is m w (λ x. has a x || has b x) few l
    (λ j. e j ∙ masked m j (has a j || has b j) (λ g. or_from (has a j) (has b j) (has_above m a j u g) (has_above m b j v g)))

-- one set within another, by what they are sets of
pub decides_within : (m a b : ℕ) (p q : ℕ → Bool) (t : Bool) → a ≡ set_of m p → b ≡ set_of m q → Decides t (Within a b)
    → Decides t ((y : ℕ) → y < m → p y ≡ true → q y ≡ true)
decides_within m a b p q t e f d = (
  (λ h y l i. sym (has_set m y q l) ∙ ap (λ w. has w y) (sym f) ∙ d.0 h y (ap (λ w. has w y) e ∙ has_set m y p l ∙ i)),
  (λ h. d.1 (λ j i. ⊎_elim
      (λ l. ap (λ w. has w j) f ∙ has_set m j q l ∙ h j l (sym (has_set m j p l) ∙ ap (λ w. has w j) (sym e) ∙ i))
      (λ g. absurd (both_ways (has a j) (ap (λ w. has w j) e ∙ past_set m j p g) i))
      (cases_lt j m))),
)
