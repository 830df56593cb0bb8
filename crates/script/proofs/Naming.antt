-- Items that name words.
use Rattle.std.proofs.Common.{◌≡◌, ◌<◌, ◌≤◌, ℕ, List, length, set, Option, sym, ◌∙◌, subst, arith}
use Rattle.std.proofs.lemmas.List.{set_past}
use Rattle.script.specs.Hexes.{Names, Fills}

-- an item names one place
pub past_count : (item : List ℕ) (count place word : ℕ) → Names item place word → count ≤ place → (p w : ℕ) → p < count → ¬ (Names item p w)
past_count item count place word names past p w l other = let same : p ≡ place = other.1.1 ∙ sym names.1.1 in omega arith

-- a word that is not held is not written
pub named_past : (count : ℕ) (words rest : List ℕ) (place word : ℕ) (r : Option (List ℕ)) → length words ≤ place → Fills count words rest r
    → Fills count (set words place word) rest r
named_past count words rest place word r l h = subst (λ xs. Fills count xs rest r) (sym (set_past words place word l)) h
