-- What the relation of two entries means in all finite worlds that keep the book.
use Rattle.std.specs.Prelude.{◌≡◌, ℕ, ◌<◌, ◌≤◌, ◌⊎◌}
use Rattle.meaning.specs.Orders.{RoleBox}
use Rattle.meaning.specs.Books.{Book}
use Rattle.tableau.specs.Promises.{Subsumed}
use Rattle.runs.specs.Runs.{Inseparable}
use Rattle.host.specs.declared.relation.Relation.{Relation}
use Rattle.host.specs.declared.relation.Relation.TheVariants.{Equal, Below, Above, Apart}

-- Every finite world that keeps the book puts all of a into b, and not every one puts all of b into a.
abbrev pub StrictlyBelow : RoleBox → Book → ℕ → ℕ → Type 0
StrictlyBelow H K a b = Subsumed H K a b × (Subsumed H K b a → ⊥)

-- Not every finite world that keeps the book puts all of a into b, nor every one all of b into a.
abbrev pub NeitherBelow : RoleBox → Book → ℕ → ℕ → Type 0
NeitherBelow H K a b = (Subsumed H K a b → ⊥) × (Subsumed H K b a → ⊥)

abbrev pub Means : RoleBox → Book → ℕ → ℕ → Relation → Type 0
Means H K a b Equal = Inseparable H K a b
Means H K a b Below = StrictlyBelow H K a b
Means H K a b Above = StrictlyBelow H K b a
Means H K a b Apart = NeitherBelow H K a b

-- What the number that a host gets says of two entries of a book that was read.
pub record NumberMeans (H : RoleBox) (K : Book) (first second n : ℕ) : Type 0 where
  -- it is one of these four, or that of a refusal
  pub known : (n < 4) ⊎ (100 ≤ n)
  pub equal : n ≡ 0 → Inseparable H K first second
  pub below : n ≡ 1 → StrictlyBelow H K first second
  pub above : n ≡ 2 → StrictlyBelow H K second first
  pub apart : n ≡ 3 → NeitherBelow H K first second
