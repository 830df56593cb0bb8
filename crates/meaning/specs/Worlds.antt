-- Finite worlds, and what a concept means in one.
use Rattle.std.specs.Prelude.{◌≡◌, ℕ, zero, suc, ◌<◌, ◌≤◌, Bool, true, false, not, ◌&&◌, ◌||◌}
use Rattle.meaning.specs.Bounded.{any, all}
pub use Rattle.meaning.specs.declared.Concept.{Concept}
use Rattle.meaning.specs.declared.Concept.TheVariants.{Nothing, Everything, Name, Not, And, Or, Restriction}
use Rattle.meaning.specs.declared.Quantifier.TheVariants.{Exists, Forall, NoneOf}

-- A finite world. The individuals are the numbers below the size, which may be any; `bears x n`: x bears the name n;
-- `joins r x y`: the role r joins x to y. A world that keeps a book has at least one individual: `Keeps` says so.
pub record Interpretation : Type 0 where
  pub size : ℕ
  pub bears : ℕ → ℕ → Bool
  pub joins : ℕ → ℕ → ℕ → Bool

-- what code can ask has 1 to 64 individuals
pub record Sized (W : Interpretation) : Type 0 where
  pub some : 0 < W.size
  pub few : W.size ≤ 64

-- is x in the concept, where `h a y` says whether y is in the part a
abbrev pub denotes : Interpretation → Concept → (ℕ → ℕ → Bool) → ℕ → Bool
denotes W Nothing h x = false
denotes W Everything h x = true
denotes W (Name n) h x = W.bears x n
denotes W (Not a) h x = not (h a x)
denotes W (And a b) h x = h a x && h b x
denotes W (Or a b) h x = h a x || h b x
denotes W (Restriction Exists r a) h x = any W.size (λ y. W.joins r x y && h a y)
denotes W (Restriction Forall r a) h x = all W.size (λ y. not (W.joins r x y) || h a y)
denotes W (Restriction NoneOf r a) h x = all W.size (λ y. not (W.joins r x y) || not (h a y))

-- the same down to a depth; below it nothing holds
unfoldable pub deep : Interpretation → (ℕ → Concept) → ℕ → ℕ → ℕ → Bool
deep W concept zero i x = false
deep W concept (suc k) i x = denotes W (concept i) (deep W concept k) x

-- Is x in entry i? Parts are lower than their entry, so a depth of i + 1 reaches the ground.
unfoldable pub holds : Interpretation → (ℕ → Concept) → ℕ → ℕ → Bool
holds W concept i x = deep W concept (suc i) i x

-- each part of the concept is below i
abbrev pub Lower : ℕ → Concept → Type 0
Lower i Nothing = Unit {0}
Lower i Everything = Unit {0}
Lower i (Name n) = Unit {0}
Lower i (Not a) = a < i
Lower i (And a b) = (a < i) × (b < i)
Lower i (Or a b) = (a < i) × (b < i)
Lower i (Restriction q r a) = a < i

-- The law of `holds`: where the parts of every entry are lower, an entry means what its kind says over its parts.
-- In this form alone `holds` is used elsewhere.
abbrev pub EntriesMean : Type 0
EntriesMean =
    (W : Interpretation) (concept : ℕ → Concept) → ((i : ℕ) → Lower i (concept i))
    → (i x : ℕ) → holds W concept i x ≡ denotes W (concept i) (holds W concept) x
