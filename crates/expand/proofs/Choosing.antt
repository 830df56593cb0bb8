-- The laws of choice words: from 0 on there are all expansions, and from the weight on there is none.
use Rattle.std.proofs.Common.{◌≡◌, ℕ, zero, suc, ◌+◌, ◌-◌, ◌^◌, ◌≤◌, Bool, true, false, cond, ◌&&◌, ◌||◌, eqb, List, [], ◌∷◌, ◌++◌, length, refl, ap, ◌∙◌, ap₂, ⊎_elim, pow-suc, arith, length-append, pow_mono}
use Rattle.std.proofs.lemmas.Bool.{and_parts, and_from, or_cases, or_left, or_right, ne_eqb, cond-true, cond-false, cond_both}
use Rattle.meaning.specs.declared.Concept.TheVariants.{Nothing, Everything, Name, Not, And, Or, Restriction}
use Rattle.meaning.proofs.Tests.{any_from, any_some}
use Rattle.tableau.specs.declared.Label.{Label}
use Rattle.tableau.specs.declared.Entry.{Entry}
use Rattle.tableau.specs.declared.Entry.TheVariants.{Plain, Inclusion, Inclusions}
use Rattle.tableau.specs.Labels.{in_label}
use Rattle.tableau.specs.Entries.{Table, LowerEntry}
use Rattle.tableau.specs.Expansions.{Ways, One, Two, absurd_entry, clash_at, clash, grown, taken, branch, expand, expansions}
use Rattle.tableau.specs.Saturation.{Holds}
use Rattle.tableau.proofs.Growing.{EachWay, Took, each_weaker, taken_took}
use Rattle.expand.specs.Choices.{weight, fork, from}

-- Weights.

pub weight_none : weight 0 ≡ 1
unfolding weight
weight_none = refl

pub weight_first : weight 1 ≡ 1
unfolding weight
weight_first = refl

pub weight_next : (k : ℕ) → weight (suc (suc k)) ≡ weight (suc k) + weight (suc k)
unfolding weight
weight_next k =
    let a : suc (suc k) - 1 ≡ suc k = omega arith in
    let b : suc k - 1 ≡ k = omega arith in
    let e = pow-suc 2 k in
    rw (a, b) (omega (arith, e))

pub weight_few : (k : ℕ) → k ≤ 64 → weight k ≤ 2 ^ 63
unfolding weight
weight_few k few = let h : k - 1 ≤ 63 = omega arith in pow_mono h

-- From 0 on there are all of them.

fork_same : (f g : Label → List Label) → ((m : Label) → f m ≡ g m) → (h : Label → List Label) → ((m : Label) → h m ≡ g m) → (w : Ways) → fork f h w ≡ branch g w
unfolding fork branch
fork_same f g p h q (One l) = p l
fork_same f g p h q (Two l m) = ap₂ (λ xs ys. xs ++ ys) (p l) (q m)

pub from_zero : (B : Table) (k : ℕ) (l : Label) → from B k l 0 ≡ expand B k l
unfolding from expand
from_zero B zero l = refl
from_zero B (suc k) l =
    fork_same (λ m. from B k m 0) (expand B k) (from_zero B k)
    (λ m. from B k m (0 - weight k)) (λ m. ap (from B k m) (omega arith) ∙ from_zero B k m) (taken (B.entry k) k l)

pub from_start : (B : Table) (seed : Label) → from B B.width seed 0 ≡ expansions B seed
unfolding expansions
from_start B seed = from_zero B B.width seed

-- Entry 0 has no alternatives.

one_sign : (e : Entry) (s : Bool) (l : Label) → LowerEntry 0 e → (m : Label) × (grown e s l ≡ One m)
one_sign (Plain Nothing) s l low = (l, refl)
one_sign (Plain Everything) s l low = (l, refl)
one_sign (Plain (Name n)) s l low = (l, refl)
one_sign (Plain (Not a)) s l low = absurd (omega arith)
one_sign (Plain (And a b)) s l low = absurd (omega arith)
one_sign (Plain (Or a b)) s l low = absurd (omega arith)
one_sign (Plain (Restriction q r a)) s l low = (l, refl)
one_sign (Inclusion c d) s l low = absurd (omega arith)
one_sign (Inclusions lo n) true l low = (_, refl)
one_sign (Inclusions lo n) false l low = (l, refl)

pub one_first : (e : Entry) (l : Label) → LowerEntry 0 e → (m : Label) × (taken e 0 l ≡ One m)
unfolding taken
one_first e l low = cond_both (in_label l true 0) (grown e true l) (cond (in_label l false 0) (grown e false l) (One l)) (λ w. (m : Label) × (w ≡ One m))
    (λ h. one_sign e true l low)
    (λ h. cond_both (in_label l false 0) (grown e false l) (One l) (λ w. (m : Label) × (w ≡ One m)) (λ h. one_sign e false l low) (λ h. (l, refl)))

-- The expansions by entry 0 alone are those of one label.
from_one : (B : Table) → LowerEntry 0 (B.entry 0) → (l : Label) → (m : Label) × ((c : ℕ) → from B 1 l c ≡ from B 0 m c)
unfolding from fork
from_one B low l =
    let o = one_first (B.entry 0) l low in
    (o.0, λ c. ap (fork (λ m. from B 0 m c) (λ m. from B 0 m (c - weight 0))) o.1)

-- From the weight on there is none.

fork_none : (f g : Label → List Label) → ((m : Label) → f m ≡ []) → ((m : Label) → g m ≡ []) → (w : Ways) → fork f g w ≡ []
unfolding fork
fork_none f g p q (One l) = p l
fork_none f g p q (Two l m) = ap₂ (λ xs ys. xs ++ ys) (p l) (q m)

pub from_past : (B : Table) → LowerEntry 0 (B.entry 0) → (k : ℕ) (l : Label) (c : ℕ) → weight k ≤ c → from B k l c ≡ []
unfolding from
from_past B low zero l c h = cond-false (eqb c 0) (expand B zero l) [] (ne_eqb c 0 (omega (arith, weight_none)))
from_past B low (suc zero) l c h =
    let o = from_one B low l in
    o.1 c ∙ from_past B low zero o.0 c (omega (arith, weight_none, weight_first))
from_past B low (suc (suc k)) l c h =
    let e = weight_next k in
    fork_none (λ m. from B (suc k) m c) (λ m. from B (suc k) m (c - weight (suc k)))
    (λ m. from_past B low (suc k) m c (omega arith)) (λ m. from_past B low (suc k) m (c - weight (suc k)) (omega arith))
    (taken (B.entry (suc k)) (suc k) l)

-- There are at most as many as there are choice words.

fork_few : (f g : Label → List Label) (n : ℕ) → ((m : Label) → length (f m) ≤ n) → ((m : Label) → length (g m) ≤ n) → (w : Ways) → length (fork f g w) ≤ n + n
unfolding fork
fork_few f g n p q (One l) = omega (arith, p l)
fork_few f g n p q (Two l m) = omega (arith, length-append (f l) (g m), p l, q m)

pub from_count : (B : Table) → LowerEntry 0 (B.entry 0) → (k : ℕ) (l : Label) (c : ℕ) → length (from B k l c) ≤ weight k
unfolding from expand
from_count B low zero l c = cond_both (eqb c 0) (cond (clash B l) [] (l ∷ [])) [] (λ xs. length xs ≤ weight 0)
    (λ h. cond_both (clash B l) [] (l ∷ []) (λ xs. length xs ≤ weight 0) (λ e. omega (arith, weight_none)) (λ e. omega (arith, weight_none)))
    (λ h. omega (arith, weight_none))
from_count B low (suc zero) l c =
    let o = from_one B low l in
    omega (arith, ap length (o.1 c), from_count B low zero o.0 c, weight_none, weight_first)
from_count B low (suc (suc k)) l c =
    let e = weight_next k in
    let h = fork_few (λ m. from B (suc k) m c) (λ m. from B (suc k) m (c - weight (suc k))) (weight (suc k))
    (λ m. from_count B low (suc k) m c) (λ m. from_count B low (suc k) m (c - weight (suc k))) (taken (B.entry (suc k)) (suc k) l) in
    omega arith

pub from_few : (B : Table) → LowerEntry 0 (B.entry 0) → (k : ℕ) → k ≤ 64 → (l : Label) (c : ℕ) → length (from B k l c) ≤ 2 ^ 63
from_few B low k few l c = omega (arith, from_count B low k l c, weight_few k few)

-- A label that clashes has no expansion: labels only grow.

pub clash_grows : (B : Table) (l m : Label) → Holds m l → clash B l ≡ true → clash B m ≡ true
unfolding clash
clash_grows B l m more e =
    let k = any_some B.width (λ i. clash_at (B.entry i) l i) e in
    any_from B.width k.0 (λ i. clash_at (B.entry i) m i) k.1 (at (B.entry k.0) k.0 k.2)
  where
    kept : (s : Bool) (i : ℕ) (x : Bool) → (in_label l s i && x) ≡ true → (in_label m s i && x) ≡ true
    kept s i x h = let p = and_parts (in_label l s i) x h in and_from (in_label m s i) x (more s i p.0) p.1

    both : (i : ℕ) → (in_label l true i && in_label l false i) ≡ true → (in_label m true i && in_label m false i) ≡ true
    both i h = let p = and_parts (in_label l true i) (in_label l false i) h in and_from (in_label m true i) (in_label m false i) (more true i p.0) (more false i p.1)

    at : (a : Entry) (i : ℕ) → clash_at a l i ≡ true → clash_at a m i ≡ true
    at a i h = ⊎_elim
        (λ p. or_left (in_label m true i && in_label m false i || in_label m true i && absurd_entry a true) (in_label m false i && absurd_entry a false)
        (⊎_elim
        (λ q. or_left (in_label m true i && in_label m false i) (in_label m true i && absurd_entry a true) (both i q))
        (λ q. or_right (in_label m true i && in_label m false i) (in_label m true i && absurd_entry a true) (kept true i (absurd_entry a true) q))
        (or_cases (in_label l true i && in_label l false i) (in_label l true i && absurd_entry a true) p)))
        (λ p. or_right (in_label m true i && in_label m false i || in_label m true i && absurd_entry a true) (in_label m false i && absurd_entry a false)
        (kept false i (absurd_entry a false) p))
        (or_cases (in_label l true i && in_label l false i || in_label l true i && absurd_entry a true) (in_label l false i && absurd_entry a false) h)

-- m holds what l holds
abbrev Over : Label → Label → Type 0
Over l m = Holds m l

-- every way of the entry that is taken holds what the label held
taken_over : (e : Entry) (k : ℕ) (l : Label) → LowerEntry k e → EachWay (Over l) (taken e k l)
taken_over e k l low = each_weaker (Took k e l) (Over l) (λ m t. t.grew.holds) (taken e k l) (taken_took k e l low)

fork_over : (f g : Label → List Label) (l : Label) → ((m : Label) → Over l m → f m ≡ []) → ((m : Label) → Over l m → g m ≡ []) → (w : Ways) → EachWay (Over l) w → fork f g w ≡ []
unfolding fork
fork_over f g l p q (One m) h = p m h
fork_over f g l p q (Two a b) h = ap₂ (λ xs ys. xs ++ ys) (p a h.0) (q b h.1)

pub from_clash : (B : Table) → ((i : ℕ) → LowerEntry i (B.entry i)) → (k : ℕ) (l : Label) (c : ℕ) → clash B l ≡ true → from B k l c ≡ []
unfolding from expand
from_clash B low zero l c e = cond_both (eqb c 0) (cond (clash B l) [] (l ∷ [])) [] (λ xs. xs ≡ []) (λ h. cond-true (clash B l) [] (l ∷ []) e) (λ h. refl)
from_clash B low (suc k) l c e =
    fork_over (λ m. from B k m c) (λ m. from B k m (c - weight k)) l
    (λ m h. from_clash B low k m c (clash_grows B l m h e)) (λ m h. from_clash B low k m (c - weight k) (clash_grows B l m h e))
    (taken (B.entry k) k l) (taken_over (B.entry k) k l (low k))
