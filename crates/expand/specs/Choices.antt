-- The expansions of a seed by choice words: bit k - 1 of a word says that entry k goes by its second alternative. Entry 0
-- has no lower entries as parts, so it never has alternatives, and 64 entries have choice words below 2 ^ 63.
use Rattle.std.specs.Prelude.{◌≡◌, ℕ, zero, suc, ◌+◌, ◌-◌, ◌^◌, ◌<◌, ◌≤◌, cond, List, [], ◌∷◌, ◌++◌, length, ◌==◌}
use Rattle.tableau.specs.declared.Label.{Label}
use Rattle.tableau.specs.Entries.{Table, LowerEntry}
use Rattle.tableau.specs.Expansions.{Ways, One, Two, taken, expand, expansions}

-- what the second alternative at entry k adds to a choice word; the choice words of the entries below k are below it
unfoldable pub weight : ℕ → ℕ
weight k = 2 ^ (k - 1)

-- what the first alternative and the second lead to, in order
unfoldable pub fork : (Label → List Label) → (Label → List Label) → Ways → List Label
fork f g (One l) = f l
fork f g (Two l m) = f l ++ g m

-- the expansions by the entries below k, from the choice word c on
unfoldable pub from : Table → ℕ → Label → ℕ → List Label
from B zero l c = cond (c == 0) (expand B zero l) []
from B (suc k) l c = fork (λ m. from B k m c) (λ m. from B k m (c - weight k)) (taken (B.entry k) k l)

-- the expansion that is the first from the choice word c on, with its own choice word
abbrev pub FirstFrom : Table → ℕ → Label → ℕ → Label × ℕ → Type 0
FirstFrom B k l c p = (from B k l c ≡ p.0 ∷ from B k l (p.1 + 1)) × (p.1 < weight k)

-- from the choice word 0 on there are all expansions of the seed, and from weight k on none; there are at most 2 ^ 63
pub record ChoicesCover : Type 0 where
  pub start : (B : Table) (seed : Label) → from B B.width seed 0 ≡ expansions B seed
  pub past : (B : Table) → LowerEntry 0 (B.entry 0) → (k : ℕ) (l : Label) (c : ℕ) → weight k ≤ c → from B k l c ≡ []
  pub few : (B : Table) → LowerEntry 0 (B.entry 0) → (k : ℕ) → k ≤ 64 → (l : Label) (c : ℕ) → length (from B k l c) ≤ 2 ^ 63
