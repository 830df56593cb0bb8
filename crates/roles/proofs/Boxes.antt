-- Rows that answer as a hierarchy does are that hierarchy.
use Rattle.std.proofs.Common.{◌≡◌, ℕ, Bool, length}
use Rattle.words.specs.Sets.{has}
use Rattle.meaning.specs.Orders.{role_box}
use Rattle.book.specs.Sections.{Sections}
use Rattle.roles.specs.Told.{marked}
use Rattle.roles.specs.Closure.{closure}
use Rattle.roles.specs.Rows.{related}
use Rattle.roles.specs.Hierarchies.{roles_of}
use Rattle.roles.specs.declared.rows.Rows.{Rows}

-- equal field by field
pub box_alike : (n m : ℕ) (under u : ℕ → ℕ → Bool) (passing p : ℕ → Bool) → n ≡ m → ((r s : ℕ) → under r s ≡ u r s)
    → ((r : ℕ) → passing r ≡ p r) → role_box n under passing ≡ role_box m u p
box_alike n m under u passing p count relation marks = λ i. record { count = count i; below = λ r s. relation r s i; transitive = λ r. marks r i }

pub rows_same : (x : Rows) (n : ℕ) (under : ℕ → ℕ → Bool) (passing : ℕ → Bool) → x.count ≡ n → ((r s : ℕ) → related x.rows r s ≡ under r s)
    → ((r : ℕ) → has x.marks r ≡ passing r) → role_box x.count (related x.rows) (has x.marks) ≡ role_box n under passing
rows_same x n under passing = box_alike x.count n (related x.rows) under (has x.marks) passing

-- the closure rows of a book are its own hierarchy
pub closed_same : (s : Sections) (x : Rows) → x.count ≡ length s.roles
    → ((r t : ℕ) → related x.rows r t ≡ closure (length s.roles) s.pairs r t)
    → ((r : ℕ) → has x.marks r ≡ marked s.roles r)
    → role_box x.count (related x.rows) (has x.marks) ≡ roles_of s
closed_same s x = rows_same x (length s.roles) (closure (length s.roles) s.pairs) (marked s.roles)
