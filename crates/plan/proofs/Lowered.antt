-- The parts of every entry of a plan are lower entries.
use Rattle.std.proofs.Common.{◌≡◌, ℕ, ◌+◌, true, ltb, List, length, sym, subst, ⊎_elim, arith}
use Rattle.std.proofs.lemmas.List.{get_or_past}
use Rattle.std.proofs.lemmas.Bool.{cases_lt, and_parts, ltb-true, leb-true}
use Rattle.meaning.specs.declared.Concept.TheVariants.{Nothing, Everything, Name, Not, And, Or, Restriction}
use Rattle.meaning.proofs.Tests.{all_at}
use Rattle.tableau.specs.declared.Entry.{Entry}
use Rattle.tableau.specs.declared.Entry.TheVariants.{Plain, Inclusion, Inclusions}
use Rattle.tableau.specs.Entries.{LowerEntry}
use Rattle.plan.specs.declared.Plan.{Plan}
use Rattle.plan.specs.Plans.{listed_entry, is_lower, lowered}

pub lower_from : (i : ℕ) (e : Entry) → is_lower i e ≡ true → LowerEntry i e
lower_from i (Plain Nothing) h = tt
lower_from i (Plain Everything) h = tt
lower_from i (Plain (Name n)) h = tt
lower_from i (Plain (Not a)) h = ltb-true a i h
lower_from i (Plain (And a b)) h = let p = and_parts (ltb a i) (ltb b i) h in (ltb-true a i p.0, ltb-true b i p.1)
lower_from i (Plain (Or a b)) h = let p = and_parts (ltb a i) (ltb b i) h in (ltb-true a i p.0, ltb-true b i p.1)
lower_from i (Plain (Restriction q r a)) h = ltb-true a i h
lower_from i (Inclusion c d) h = let p = and_parts (ltb c i) (ltb d i) h in (ltb-true c i p.0, ltb-true d i p.1)
lower_from i (Inclusions lo n) h = leb-true (lo + n) i h

pub lower_in : (entries : List Entry) → length entries ≡ 64 → lowered entries ≡ true → (i : ℕ) → LowerEntry i (listed_entry entries i)
unfolding lowered
lower_in entries long h i = ⊎_elim
    (λ l. lower_from i (listed_entry entries i) (all_at 64 (λ i. is_lower i (listed_entry entries i)) h i l))
    (λ g. subst (LowerEntry i) (sym (get_or_past entries i (Plain Nothing) (omega arith))) tt)
    (cases_lt i 64)

pub plan_lower : (p : Plan) (i : ℕ) → LowerEntry i (listed_entry p.entries i)
plan_lower p i = lower_in p.entries p.entries_long p.low i
