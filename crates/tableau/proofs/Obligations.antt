-- What a label's obligations come from: restrictions that it holds.
use Rattle.std.proofs.Common.{◌≡◌, ℕ, ◌<◌, Bool, true, false, cond, refl, ap, ◌∙◌, ⊎_elim, None}
use Rattle.std.proofs.lemmas.Bool.{cases_Bool, cond-true, cond-false}
use Rattle.meaning.specs.declared.Concept.TheVariants.{Nothing, Everything, Name, Not, And, Or, Restriction}
use Rattle.meaning.specs.declared.Quantifier.{Quantifier}
use Rattle.tableau.specs.declared.Label.{Label}
use Rattle.tableau.specs.declared.Entry.{Entry}
use Rattle.tableau.specs.declared.Entry.TheVariants.{Plain, Inclusion, Inclusions}
use Rattle.tableau.specs.declared.Demand.{Demand}
use Rattle.tableau.specs.Labels.{in_label}
use Rattle.tableau.specs.Entries.{Table}
use Rattle.tableau.specs.Expansions.{clash}
use Rattle.tableau.specs.Seeds.{obliges, sign_of, obligation, obliged_at, wants}
use Rattle.tableau.proofs.Tests.{never}
use Rattle.tableau.proofs.Clashing.{one_sign}

-- the restriction that obliges the label, by entry i, to a successor by r in the part a (s) or outside it
pub record Obliging (B : Table) (l : Label) (i r : ℕ) (s : Bool) (a : ℕ) : Type 0 where
  pub sign : Bool
  pub quantifier : Quantifier
  pub held : in_label l sign i ≡ true
  pub is : B.entry i ≡ Plain (Restriction quantifier r a)
  pub obliging : obliges quantifier sign ≡ true
  pub part_sign : sign_of quantifier sign ≡ s

-- a demand is one by its role, its sign and its part
pub same_demand : (r t : ℕ) (s u : Bool) (a b : ℕ) → wants t u b ≡ wants r s a → (t ≡ r) × (u ≡ s) × (b ≡ a)
same_demand r t s u a b e =
    let same : ◌≡◌ {A = Demand} (record { role = t; sign = u; part = b }) (record { role = r; sign = s; part = a }) = cc in
    (ap (λ (d : Demand). d.role) same, ap (λ (d : Demand). d.sign) same, ap (λ (d : Demand). d.part) same)

-- only a restriction obliges
wants_entry : (e : Entry) (u : Bool) (r : ℕ) (s : Bool) (a : ℕ) → obligation e u ≡ wants r s a
    → (q : Quantifier) × (e ≡ Plain (Restriction q r a)) × (obliges q u ≡ true) × (sign_of q u ≡ s)
wants_entry (Plain Nothing) u r s a e = never cc
wants_entry (Plain Everything) u r s a e = never cc
wants_entry (Plain (Name n)) u r s a e = never cc
wants_entry (Plain (Not b)) u r s a e = never cc
wants_entry (Plain (And b c)) u r s a e = never cc
wants_entry (Plain (Or b c)) u r s a e = never cc
wants_entry (Plain (Restriction q t b)) u r s a e = go (obliges q u) refl e
  where
    go : (o : Bool) → obliges q u ≡ o → cond o (wants t (sign_of q u) b) None ≡ wants r s a
        → (k : Quantifier) × (Plain (Restriction q t b) ≡ Plain (Restriction k r a)) × (obliges k u ≡ true) × (sign_of k u ≡ s)
    go true o f = let same = same_demand r t s (sign_of q u) a b f in (q, cc (same.0, same.2), o, same.1)
    go false o f = never cc
wants_entry (Inclusion c d) u r s a e = never cc
wants_entry (Inclusions lo n) u r s a e = never cc

-- and so the label holds one, with one of the signs
pub obliging_at : (B : Table) (l : Label) (i r : ℕ) (s : Bool) (a : ℕ) → obliged_at B l i ≡ wants r s a → Obliging B l i r s a
obliging_at B l i r s a e = go (in_label l true i) refl (in_label l false i) refl e
  where
    by_sign : (u : Bool) → in_label l u i ≡ true → obligation (B.entry i) u ≡ wants r s a → Obliging B l i r s a
    by_sign u h f =
        let k = wants_entry (B.entry i) u r s a f in
        record { sign = u; quantifier = k.0; held = h; is = k.1; obliging = k.2; part_sign = k.3 }

    go : (t : Bool) → in_label l true i ≡ t → (f : Bool) → in_label l false i ≡ f
        → cond t (obligation (B.entry i) true) (cond f (obligation (B.entry i) false) None) ≡ wants r s a → Obliging B l i r s a
    go true p f m h = by_sign true p h
    go false p true m h = by_sign false m h
    go false p false m h = never cc

-- and a restriction that obliges is the obligation at its entry, where the label has no clash
pub obligation_is : (B : Table) (l : Label) → clash B l ≡ false → (i : ℕ) → i < B.width → (s : Bool) → in_label l s i ≡ true
    → (q : Quantifier) (r a : ℕ) → B.entry i ≡ Plain (Restriction q r a) → obliges q s ≡ true → obliged_at B l i ≡ wants r (sign_of q s) a
obligation_is B l calm i w true h q r a e o = cond-true (in_label l true i) _ _ h ∙ ap (λ z. obligation z true) e ∙ cond-true (obliges q true) _ _ o
obligation_is B l calm i w false h q r a e o = ⊎_elim
    (λ p. absurd (one_sign B l calm i w p h))
    (λ n. cond-false (in_label l true i) _ _ n ∙ cond-true (in_label l false i) _ _ h ∙ ap (λ z. obligation z false) e ∙ cond-true (obliges q false) _ _ o)
    (cases_Bool (in_label l true i))
