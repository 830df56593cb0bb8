-- What is asked of labels that stand: saturated and without a clash, with every obligation met. And labels of a list.
use Rattle.std.proofs.Common.{◌≡◌, ℕ, ◌<◌, Bool, true, false, ◌⊎◌, List, [], ◌∷◌, ◌++◌, length, get_or, inl, inr, ⊎_elim}
use Rattle.meaning.specs.Orders.{RoleBox}
use Rattle.tableau.specs.declared.Label.{Label}
use Rattle.tableau.specs.Labels.{empty, in_label, any_contains}
use Rattle.tableau.specs.Entries.{Table}
use Rattle.tableau.specs.Expansions.{clash}
use Rattle.tableau.specs.Seeds.{obliged_at, seed_of, wants}
use Rattle.tableau.specs.Saturation.{Saturates, In}

-- the label has no clash, and what each of its entries asks for
pub record Saturated (B : Table) (l : Label) : Type 0 where
  pub calm : clash B l ≡ false
  pub saturated : (i : ℕ) (s : Bool) → i < B.width → in_label l s i ≡ true → Saturates (B.entry i) s l

-- every label of the list is saturated, and the seed of each of its obligations is contained in a label of the list
pub record Stands (H : RoleBox) (B : Table) (ls : List Label) : Type 0 where
  pub full : (x : ℕ) → x < length ls → Saturated B (get_or ls x empty)
  pub met : (x i r a : ℕ) (s : Bool) → x < length ls → i < B.width → obliged_at B (get_or ls x empty) i ≡ wants r s a
      → any_contains ls (seed_of H B (get_or ls x empty) r s a) ≡ true

-- one of two lists after another is one of the first or of the second
pub in_left : (e : Label) (ls ms : List Label) → In e ls → In e (ls ++ ms)
in_left e [] ms h = absurd h
in_left e (l ∷ ls) ms h = ⊎_elim (λ p. inl p) (λ p. inr (in_left e ls ms p)) h

pub in_right : (e : Label) (ls ms : List Label) → In e ms → In e (ls ++ ms)
in_right e [] ms h = h
in_right e (l ∷ ls) ms h = inr (in_right e ls ms h)

pub in_append : (e : Label) (ls ms : List Label) → In e (ls ++ ms) → In e ls ⊎ In e ms
in_append e [] ms h = inr h
in_append e (l ∷ ls) ms h = ⊎_elim (λ p. inl (inl p)) (λ p. ⊎_elim (λ q. inl (inr q)) (λ q. inr q) (in_append e ls ms p)) h
