-- A search after another, by what the first came to.
use Rattle.std.proofs.Common.{◌≡◌, List, refl}
use Rattle.tableau.specs.declared.Label.{Label}
use Rattle.tableau.specs.Search.{Outcome, failed, full, stands, or_else, and_then}

-- the second goes on from what the first leaves standing
pub then_cases : (P : Outcome → Type 0) (o : Outcome) (next : List Label → Outcome)
    → (o ≡ failed → P failed) → (o ≡ full → P full) → ((ls : List Label) → o ≡ stands ls → P (next ls)) → P (and_then o next)
unfolding and_then
then_cases P failed next a b c = a refl
then_cases P full next a b c = b refl
then_cases P (stands ls) next a b c = c ls refl

-- the second is tried where the first failed
pub else_cases : (P : Outcome → Type 0) (o : Outcome) (next : Unit {0} → Outcome)
    → (o ≡ failed → P (next tt)) → (o ≡ full → P full) → ((ls : List Label) → o ≡ stands ls → P (stands ls)) → P (or_else o next)
unfolding or_else
else_cases P failed next a b c = a refl
else_cases P full next a b c = b refl
else_cases P (stands ls) next a b c = c ls refl
