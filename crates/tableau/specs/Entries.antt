-- Working entries, and the laws of a hierarchy.
use Rattle.std.specs.Prelude.{◌≡◌, ℕ, ◌+◌, ◌<◌, ◌≤◌, Bool, true}
use Rattle.meaning.specs.Worlds.{Lower}
use Rattle.meaning.specs.Orders.{Lawful, RoleBox}
use Rattle.tableau.specs.declared.Entry.{Entry}
use Rattle.tableau.specs.declared.Entry.TheVariants.{Plain, Inclusion, Inclusions}

-- The working entries: `width` of them; those below `plain` are concept entries and propagated restrictions; and
-- `propagates i j` says that j is a propagated restriction of i.
pub record Table : Type 0 where
  pub width : ℕ
  pub plain : ℕ
  pub entry : ℕ → Entry
  pub propagates : ℕ → ℕ → Bool

-- each part of the entry is below i
abbrev pub LowerEntry : ℕ → Entry → Type 0
LowerEntry i (Plain c) = Lower i c
LowerEntry i (Inclusion c d) = (c < i) × (d < i)
LowerEntry i (Inclusions lo n) = lo + n ≤ i

-- the laws of a hierarchy as a value
pub record Ordered (H : RoleBox) : Type 0 where
  pub law : Lawful H.count H.below
  pub inside : (r : ℕ) → H.transitive r ≡ true → r < H.count
