-- Whether a world keeps a book under a hierarchy.
use Rattle.std.specs.Prelude.{◌≡◌, ℕ, ◌<◌, Bool, true, ◌≢◌, Ok, Err, Decides, Result}
use Rattle.denial.specs.declared.Denial.{Denial}
use Rattle.denial.specs.declared.Denial.TheVariants.{RoleCount}
use Rattle.meaning.specs.Worlds.{Interpretation}
use Rattle.meaning.specs.Orders.{RoleBox}
use Rattle.meaning.specs.Books.{Book, Keeps}

-- each individual to which r joins x is one to which s joins z
abbrev pub RowWithin : Interpretation → ℕ → ℕ → ℕ → ℕ → Type 0
RowWithin W r x s z = (y : ℕ) → y < W.size → W.joins r x y ≡ true → W.joins s z y ≡ true

-- refused where the hierarchy is for another number of roles than the book's; else whether the world keeps the book
abbrev pub KeepsAnswer : RoleBox → Book → Interpretation → Result Bool Denial → Type 0
KeepsAnswer H B W (Ok b) = (H.count ≡ B.roles) × Decides b (Keeps H B W)
KeepsAnswer H B W (Err d) = (H.count ≢ B.roles) × (d ≡ RoleCount H.count)
