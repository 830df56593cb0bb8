-- What a search decides.
use Rattle.std.specs.Prelude.{◌≡◌, ℕ, ◌^◌, ◌<◌, ◌≤◌, Bool, true, List, [], ◌++◌, length, ◌⊎◌, ◌↔◌, ◌≢◌, slice_index_or}
use Rattle.meaning.specs.Worlds.{Interpretation, holds}
use Rattle.meaning.specs.Orders.{RoleBox}
use Rattle.meaning.specs.Universal.{with_universal}
use Rattle.meaning.specs.Books.{Book, Sound, Keeps}
use Rattle.tableau.specs.declared.Label.{Label}
use Rattle.tableau.specs.Labels.{empty, in_label, lowest}
use Rattle.tableau.specs.Entries.{Ordered}
use Rattle.tableau.specs.Seeds.{obliged_at, seed_of, wants}
use Rattle.tableau.specs.Search.{Outcome, failed, full, stands, pursue, explore}
use Rattle.tableau.specs.Found.{found, only_roles}
use Rattle.tableau.specs.Moments.{Different, Moment, Crowded, chosen, EdgeChosen}
use Rattle.tableau.specs.Working.{table_of, width_of, rooted, seed_of_not, seed_of_one}

-- the search for a world with an individual that satisfies the seed, in n nodes
abbrev pub search_from : RoleBox → Book → Label → ℕ → Outcome
search_from H K s n = explore (with_universal H) (table_of H K) n n [] (rooted H K s)

-- the world that a search found, with the roles of the book
abbrev pub found_world : RoleBox → Book → List Label → Interpretation
found_world H K ls = only_roles H.count (found (with_universal H) (table_of H K) ls)

-- the individual x is in each entry with + of the seed, and outside each with -
abbrev pub Satisfies : Book → Interpretation → ℕ → Label → Type 0
Satisfies K W x s = (t : Bool) (i : ℕ) → in_label s t i ≡ true → holds W K.concept i x ≡ t

-- a seed of concept entries
abbrev pub Seed : Book → Label → Type 0
Seed K s = (t : Bool) (i : ℕ) → in_label s t i ≡ true → i < K.entries

-- a sound book, and a lawful hierarchy of its roles that leaves a number for the universal role; and w is at most 64
pub record Opens (H : RoleBox) (K : Book) : Type 0 where
  pub ordered : Ordered H
  pub roles : H.count ≡ K.roles
  pub few : H.count < 64
  pub sound : Sound K
  pub narrow : width_of H K ≤ 64

-- Failure is right: no individual of any finite world that keeps the book satisfies the seed.
abbrev pub FailureIsRight : Type 0
FailureIsRight =
    (H : RoleBox) (K : Book) → Opens H K → (s : Label) → Seed K s → (n : ℕ) → search_from H K s n ≡ failed
    → (W : Interpretation) → Keeps H K W → (x : ℕ) → x < W.size → Satisfies K W x s → ⊥

-- Success is right: the found world keeps the book, and its first individual satisfies the seed.
pub record Realised (H : RoleBox) (K : Book) (s : Label) (ls : List Label) : Type 0 where
  pub inhabited : 0 < length ls
  pub keeps : Keeps H K (found_world H K ls)
  pub satisfies : Satisfies K (found_world H K ls) 0 s

abbrev pub SuccessIsRight : Type 0
SuccessIsRight =
    (H : RoleBox) (K : Book) → Opens H K → (s : Label) → Seed K s → (n : ℕ) (ls : List Label) → search_from H K s n ≡ stands ls
    → Realised H K s ls

-- Room: with 3 ^ w nodes the search is never without room.
abbrev pub RoomSuffices : Type 0
RoomSuffices = (H : RoleBox) (K : Book) → Opens H K → (s : Label) → Seed K s → (n : ℕ) → 3 ^ width_of H K ≤ n → search_from H K s n ≢ full

-- a moment of the search from the seed: at depth k, with node x at work at entry i, the labels st stand
abbrev pub MomentOf : RoleBox → Book → Label → ℕ → ℕ → ℕ → ℕ → List Label → Type 0
MomentOf H K s n = Moment (with_universal H) (table_of H K) n (rooted H K s)

-- At every moment the labels that stand are pairwise different and at most n. What a search leaves stands at a moment, too, so
-- that it is pairwise different and at most n as well.
pub record Orderly (H : RoleBox) (K : Book) (s : Label) (n : ℕ) : Type 0 where
  pub distinct : (k x i : ℕ) (st : List Label) → MomentOf H K s n k x i st → Different st
  pub within : (k x i : ℕ) (st : List Label) → MomentOf H K s n k x i st → length st ≤ n
  pub ends : (ls : List Label) → search_from H K s n ≡ stands ls → (k : ℕ) × MomentOf H K s n k 0 (width_of H K) ls

abbrev pub StandingLabelsDiffer : Type 0
StandingLabelsDiffer = (H : RoleBox) (K : Book) → Opens H K → (s : Label) → Seed K s → (n : ℕ) → Orderly H K s n

-- a node is wanted while all n nodes stand: the first of all where n is 0, or one more at a moment
abbrev pub WantsNode : RoleBox → Book → Label → ℕ → Type 0
WantsNode H K s n = (n ≡ 0) ⊎ Crowded (with_universal H) (table_of H K) n (rooted H K s)

-- Full is right: the search is full exactly where a node is wanted while all n stand.
abbrev pub FullIsRight : Type 0
FullIsRight = (H : RoleBox) (K : Book) → Opens H K → (s : Label) → Seed K s → (n : ℕ) → (search_from H K s n ≡ full) ↔ WantsNode H K s n

-- The edges are those chosen: for as long as the labels stand that were left when an obligation was met, the lowest node
-- that contains its seed is the one chosen then; and in the end every obligation of every node has been met so.
pub record KeepsEdges (H : RoleBox) (K : Book) (s : Label) (n : ℕ) : Type 0 where
  pub stay : (k r a : ℕ) (t : Bool) (l : Label) (st ms more : List Label)
      → pursue (with_universal H) (table_of H K) (explore (with_universal H) (table_of H K) n k) l (wants r t a) st ≡ stands ms
      → lowest (ms ++ more) (seed_of (with_universal H) (table_of H K) l r t a) ≡ chosen st (seed_of (with_universal H) (table_of H K) l r t a)
  pub met : (ls : List Label) → search_from H K s n ≡ stands ls → (x i r a : ℕ) (t : Bool) → x < length ls → i < width_of H K
      → obliged_at (table_of H K) (slice_index_or ls x empty) i ≡ wants r t a
      → EdgeChosen (with_universal H) (table_of H K) n (rooted H K s) ls x i r t a

abbrev pub EdgesAreThoseChosen : Type 0
EdgesAreThoseChosen = (H : RoleBox) (K : Book) → Opens H K → (s : Label) → Seed K s → (n : ℕ) → KeepsEdges H K s n

-- every finite world that keeps the book puts all of a into b
abbrev pub Subsumed : RoleBox → Book → ℕ → ℕ → Type 0
Subsumed H K a b =
    (W : Interpretation) → Keeps H K W → (x : ℕ) → x < W.size → holds W K.concept a x ≡ true → holds W K.concept b x ≡ true

-- no finite world that keeps the book has an individual in a
abbrev pub Empty : RoleBox → Book → ℕ → Type 0
Empty H K a = (W : Interpretation) → Keeps H K W → (x : ℕ) → x < W.size → holds W K.concept a x ≢ true

-- The search decides: with room enough, "a not b" fails exactly when every finite world that keeps the book puts all of a
-- into b, and "a" alone exactly when none has an individual in a.
pub record DecidesBySearch (H : RoleBox) (K : Book) (n : ℕ) : Type 0 where
  pub not_fails : (a b : ℕ) → a < K.entries → b < K.entries → (search_from H K (seed_of_not a b) n ≡ failed) ↔ Subsumed H K a b
  pub one_fails : (a : ℕ) → a < K.entries → (search_from H K (seed_of_one a) n ≡ failed) ↔ Empty H K a

abbrev pub SearchDecides : Type 0
SearchDecides = (H : RoleBox) (K : Book) → Opens H K → (n : ℕ) → 3 ^ width_of H K ≤ n → DecidesBySearch H K n
