-- Two small books for which the hypotheses of the theorems hold. What searches come to in them is computed from their bytes in
-- `runs`.
use Rattle.std.specs.Prelude.{false, ◌&&◌, ◌||◌, [], ◌∷◌, ◌==◌, nat_lt, slice_index_or}
use Rattle.meaning.specs.Books.{Book}
use Rattle.meaning.specs.Orders.{RoleBox}
use Rattle.meaning.specs.declared.Concept.TheVariants.{Nothing, Name, Not, And, Restriction}
use Rattle.meaning.specs.declared.Quantifier.TheVariants.{Exists, Forall}
use Rattle.tableau.specs.Promises.{Opens}

-- Book A: role 0 is transitive and below role 1. Entry 5 wants a successor's successor in entry 0 by role 0, and none in
-- it by role 1: no individual of any world that keeps the book is in it.
abbrev pub roles_a : RoleBox
roles_a = record { count = 2; below = λ r s. (r == s) && nat_lt r 2 || r == 0 && (s == 1); transitive = λ r. (r == 0) }

abbrev pub book_a : Book
book_a = record {
  roles = 2;
  entries = 6;
  concept = λ i. slice_index_or (Name 0 ∷ Restriction Exists 0 0 ∷ Restriction Exists 0 1 ∷ Not 0 ∷ Restriction Forall 1 3 ∷ And 2 4 ∷ []) i Nothing;
  rules = 0;
  rule = λ k. record { premise = 0; conclusion = 0 };
}

-- Book B: all of entry 0 are joined to some individual in it.
abbrev pub roles_b : RoleBox
roles_b = record { count = 1; below = λ r s. (r == 0) && (s == 0); transitive = λ r. false }

abbrev pub book_b : Book
book_b = record {
  roles = 1;
  entries = 2;
  concept = λ i. slice_index_or (Name 0 ∷ Restriction Exists 0 0 ∷ []) i Nothing;
  rules = 1;
  rule = λ k. record { premise = 0; conclusion = 1 };
}

-- both books open: the theorems speak of them
pub record ExamplesOpen : Type 0 where
  pub a_opens : Opens roles_a book_a
  pub b_opens : Opens roles_b book_b
