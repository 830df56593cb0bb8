-- What a book says, whatever its bytes, and what it is for a world to keep it.
use Rattle.std.specs.Prelude.{◌≡◌, ℕ, ◌<◌, ◌≤◌, Bool, true}
use Rattle.meaning.specs.Worlds.{Interpretation, Concept, holds, Lower}
use Rattle.meaning.specs.declared.Concept.TheVariants.{Name, Restriction}
use Rattle.meaning.specs.declared.Quantifier.{Quantifier}
use Rattle.meaning.specs.Orders.{RoleBox}
pub use Rattle.meaning.specs.declared.Rule.{Rule}

-- how many roles, concept entries and rules the book has, and which concepts and rules they are
pub record Book : Type 0 where
  pub roles : ℕ
  pub entries : ℕ
  pub concept : ℕ → Concept
  pub rules : ℕ
  pub rule : ℕ → Rule

-- What reading a book makes sure of: the numbers are within their limits, a part is a lower entry, a restriction's role
-- is one of the book, a name is one of the 64 and has one entry at most, and a rule speaks of entries.
pub record Sound (B : Book) : Type 0 where
  pub few_roles : B.roles ≤ 64
  pub some_entries : 0 < B.entries
  pub few_entries : B.entries ≤ 60
  pub few_rules : B.rules ≤ 32
  pub lower : (i : ℕ) → Lower i (B.concept i)
  pub roles_in : (i r a : ℕ) (q : Quantifier) → i < B.entries → B.concept i ≡ Restriction q r a → r < B.roles
  pub names_in : (i n : ℕ) → i < B.entries → B.concept i ≡ Name n → n < 64
  pub names_once : (i j n : ℕ) → i < B.entries → j < B.entries → B.concept i ≡ Name n → B.concept j ≡ Name n → i ≡ j
  pub premises_in : (k : ℕ) → k < B.rules → (B.rule k).premise < B.entries
  pub conclusions_in : (k : ℕ) → k < B.rules → (B.rule k).conclusion < B.entries

-- every pair of r is a pair of s
abbrev pub Includes : Interpretation → ℕ → ℕ → Type 0
Includes W r s = (x y : ℕ) → x < W.size → y < W.size → W.joins r x y ≡ true → W.joins s x y ≡ true

-- where r joins x to y and y to z, it joins x to z
abbrev pub Passes : Interpretation → ℕ → Type 0
Passes W r = (x y z : ℕ) → x < W.size → y < W.size → z < W.size → W.joins r x y ≡ true → W.joins r y z ≡ true → W.joins r x z ≡ true

-- each individual in the entry c is in the entry d
abbrev pub Obeys : Interpretation → (ℕ → Concept) → ℕ → ℕ → Type 0
Obeys W concept c d = (x : ℕ) → x < W.size → holds W concept c x ≡ true → holds W concept d x ≡ true

-- where a role is below another, its pairs are pairs of the other
abbrev pub KeepsInclusions : (ℕ → ℕ → Bool) → Interpretation → Type 0
KeepsInclusions below W = (r s : ℕ) → below r s ≡ true → Includes W r s

-- the transitive roles are transitive in the world
abbrev pub KeepsTransitivity : (ℕ → Bool) → Interpretation → Type 0
KeepsTransitivity transitive W = (r : ℕ) → transitive r ≡ true → Passes W r

-- every rule is obeyed
abbrev pub KeepsRules : Book → Interpretation → Type 0
KeepsRules B W = (k : ℕ) → k < B.rules → Obeys W B.concept (B.rule k).premise (B.rule k).conclusion

-- the world, of one individual at least, keeps the book under the hierarchy
pub record Keeps (H : RoleBox) (B : Book) (W : Interpretation) : Type 0 where
  pub inhabited : 0 < W.size
  pub inclusions : KeepsInclusions H.below W
  pub transitivity : KeepsTransitivity H.transitive W
  pub rules : KeepsRules B W
