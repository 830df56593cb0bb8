-- The sets of the entries that are a name, entry by entry.
use Rattle.std.proofs.Common.{◌≡◌, ℕ, ◌+◌, ◌<◌, Bool, ◌&&◌, ◌||◌, eqb, ltb, List, get_or, replicate, ap, ◌∙◌, ⊎_elim, arith}
use Rattle.std.proofs.lemmas.Bool.{cases_eq}
use Rattle.std.proofs.lemmas.Bool.Decides.{nat_tests}
use Rattle.words.specs.Sets.{has}
use Rattle.words.proofs.Words.{has_none}
use Rattle.plan.specs.declared.Plan.{Plan}
use Rattle.sheet.proofs.Extending.{zeros}
use Rattle.found.specs.Founds.{is_name_in}

-- the sets of the entries below n
abbrev pub NamedTo : Plan → ℕ → List ℕ → Type 0
NamedTo p n sets = (k j : ℕ) → k < 64 → has (get_or sets k 0) j ≡ (ltb j n && is_name_in p k j)

-- no entry, then one more
pub named_none : (p : Plan) (n : ℕ) → NamedTo p 0 (replicate n 0)
named_none p n k j l = ap (λ w. has w j) (zeros n k) ∙ has_none j ∙ grind (arith, nat_tests)

-- the numbers below i of which f holds, and i if it holds of i
one_more : (f : ℕ → Bool) (i j : ℕ) → (f i && eqb j i || (ltb j i && f j)) ≡ (ltb j (i + 1) && f j)
one_more f i j = ⊎_elim
    (λ (same : j ≡ i). rw same (grind (arith, nat_tests)))
    (λ other. grind (arith, nat_tests))
    (cases_eq j i)

pub named_more : (p : Plan) (i : ℕ) (was is : List ℕ) → ((k j : ℕ) → k < 64 → has (get_or is k 0) j ≡ (is_name_in p k i && eqb j i || has (get_or was k 0) j))
    → NamedTo p i was → NamedTo p (i + 1) is
named_more p i was is noted before k j l =
    noted k j l ∙ ap (λ b. is_name_in p k i && eqb j i || b) (before k j l) ∙ one_more (is_name_in p k) i j
