-- What the theorems about the search ask: that the roles of a world are as a hierarchy says, and the laws of a table.
use Rattle.std.proofs.Common.{◌≡◌, ℕ, ◌<◌, ◌≤◌, true, false}
use Rattle.meaning.specs.Worlds.{Interpretation}
use Rattle.meaning.specs.Books.{KeepsInclusions, KeepsTransitivity}
use Rattle.meaning.specs.Orders.{RoleBox}
use Rattle.meaning.specs.declared.Concept.TheVariants.{Name, Restriction}
use Rattle.meaning.specs.declared.Quantifier.{Quantifier}
use Rattle.meaning.specs.declared.Quantifier.TheVariants.{Forall}
use Rattle.tableau.specs.declared.Entry.{Entry}
use Rattle.tableau.specs.declared.Entry.TheVariants.{Plain, Inclusion, Inclusions}
use Rattle.tableau.specs.Entries.{Table, LowerEntry}

-- the world's roles are as the hierarchy says
pub record Follows (H : RoleBox) (W : Interpretation) : Type 0 where
  pub inclusions : KeepsInclusions H.below W
  pub transitivity : KeepsTransitivity H.transitive W

-- an entry that may stand with either sign
abbrev pub Concepts : Entry → Type 0
Concepts (Plain c) = Unit {0}
Concepts (Inclusion c d) = ⊥
Concepts (Inclusions lo n) = ⊥

-- an entry from `plain` on: a rule over entries below, all rules, or a universal restriction
abbrev pub Ruling : ℕ → Entry → Type 0
Ruling p (Plain c) = (r : ℕ) × (a : ℕ) × (c ≡ Restriction Forall r a)
Ruling p (Inclusion c d) = (c < p) × (d < p)
Ruling p (Inclusions lo n) = p ≤ lo

-- the laws of a table over a hierarchy
pub record Tabled (H : RoleBox) (B : Table) : Type 0 where
  pub lower : (i : ℕ) → LowerEntry i (B.entry i)
  pub low : (i : ℕ) → i < B.plain → Concepts (B.entry i)
  pub high : (i : ℕ) → i < B.width → B.plain ≤ i → Ruling B.plain (B.entry i)
  pub fits : B.plain ≤ B.width
  pub names : (i j n : ℕ) → i < B.width → j < B.width → B.entry i ≡ Plain (Name n) → B.entry j ≡ Plain (Name n) → i ≡ j
  pub roles : (i r a : ℕ) (q : Quantifier) → i < B.width → B.entry i ≡ Plain (Restriction q r a) → r < H.count
  pub propagated : (i j s a : ℕ) (q : Quantifier) → B.propagates i j ≡ true → B.entry i ≡ Plain (Restriction q s a)
      → (p : ℕ) × (B.entry j ≡ Plain (Restriction q p a)) × (H.transitive p ≡ true) × (H.below p s ≡ true)
  pub propagating : (i p s a : ℕ) (q : Quantifier) → i < B.width → B.entry i ≡ Plain (Restriction q s a) → H.transitive s ≡ false → H.transitive p ≡ true → H.below p s ≡ true
      → (j : ℕ) × (j < B.width) × (B.propagates i j ≡ true) × (B.entry j ≡ Plain (Restriction q p a))
