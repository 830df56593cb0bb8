-- What a label without a clash does not hold.
use Rattle.std.proofs.Common.{◌≡◌, ℕ, ◌<◌, Bool, true, false, ◌&&◌}
use Rattle.std.proofs.lemmas.Bool.{and_from, or_parts, both_ways}
use Rattle.meaning.proofs.Tests.{any_none}
use Rattle.tableau.specs.declared.Label.{Label}
use Rattle.tableau.specs.Labels.{in_label}
use Rattle.tableau.specs.Entries.{Table}
use Rattle.tableau.specs.Expansions.{absurd_entry, clash_at, clash}

module _ (B : Table) (l : Label) (calm : clash B l ≡ false) (i : ℕ) (w : i < B.width) where
  -- none of the three clashes is at entry i
  no_clash : ((in_label l true i && in_label l false i) ≡ false) × ((in_label l true i && absurd_entry (B.entry i) true) ≡ false)
      × ((in_label l false i && absurd_entry (B.entry i) false) ≡ false)
  unfolding clash
  no_clash =
      let p = or_parts _ _ (any_none B.width (λ i. clash_at (B.entry i) l i) calm i w) in
      let q = or_parts _ _ p.0 in
      (q.0, q.1, p.1)

  -- it has not both signs of an entry
  pub one_sign : in_label l true i ≡ true → in_label l false i ≡ true → ⊥
  one_sign p m = both_ways (in_label l true i && in_label l false i) no_clash.0 (and_from (in_label l true i) (in_label l false i) p m)

  -- and no entry with a sign that no individual has it with
  pub no_absurd : (s : Bool) → in_label l s i ≡ true → absurd_entry (B.entry i) s ≡ true → ⊥
  no_absurd true h a = both_ways _ no_clash.1 (and_from (in_label l true i) (absurd_entry (B.entry i) true) h a)
  no_absurd false h a = both_ways _ no_clash.2 (and_from (in_label l false i) (absurd_entry (B.entry i) false) h a)
