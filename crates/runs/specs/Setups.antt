-- What a register keeps of a book and a hierarchy, and the searches that it makes.
use Rattle.std.specs.Prelude.{◌≡◌, ℕ, zero, suc, ◌-◌, true, List, [], Some, None, Option, slice_index}
use Rattle.meaning.specs.Worlds.{Interpretation}
use Rattle.meaning.specs.Orders.{RoleBox}
use Rattle.meaning.specs.Universal.{with_universal}
use Rattle.meaning.specs.Books.{Book}
use Rattle.tableau.specs.declared.Label.{Label}
use Rattle.tableau.specs.Labels.{put}
use Rattle.tableau.specs.Entries.{Table}
use Rattle.tableau.specs.Search.{Outcome, failed, explore}
use Rattle.tableau.specs.Found.{found, only_roles}
use Rattle.tableau.specs.Working.{table_of, seed_of_not, seed_of_one}
use Rattle.tableau.specs.Promises.{search_from, found_world}

-- the hierarchy with its universal role, the working entries, and how many roles and concept entries the book has
pub record Setup : Type 0 where
  pub box : RoleBox
  pub table : Table
  pub roles : ℕ
  pub entries : ℕ

-- that of a book under a hierarchy
abbrev pub setup : RoleBox → Book → Setup
setup H K = record { box = with_universal H; table = table_of H K; roles = H.count; entries = K.entries }

-- a seed with + book and + everywhere, which are the last two working entries
abbrev pub root_in : Table → Label → Label
root_in B s = put true (B.width - 1) (put true (B.width - 2) s)

-- the search for a world with an individual that satisfies the seed, in n nodes
abbrev pub search_in : Setup → Label → ℕ → Outcome
search_in S s n = explore S.box S.table n n [] (root_in S.table s)

-- the world that a search found
abbrev pub world_in : Setup → List Label → Interpretation
world_in S ls = only_roles S.roles (found S.box S.table ls)

-- On the setup of a book under a hierarchy these are the search of the theorems about the search and its found world, from every
-- seed and in any number of nodes.
pub record SameSearches (H : RoleBox) (K : Book) : Type 0 where
  pub outcome : (s : Label) (n : ℕ) → search_in (setup H K) s n ≡ search_from H K s n
  pub world : (ls : List Label) → world_in (setup H K) ls ≡ found_world H K ls

-- So each of those theorems speaks of the searches that a register makes. `FullIsRight`, say: such a search is full exactly where
-- a node is wanted while all n stand.
abbrev pub SearchesAgree : Type 0
SearchesAgree = (H : RoleBox) (K : Book) → SameSearches H K

-- the entry by which the class of the number stands, the classes from 1 on standing by the entries of the list; none for class 0
unfoldable pub stand : List ℕ → ℕ → Option ℕ
stand cs zero = None
stand cs (suc k) = Some (slice_index cs k)

-- The search for an individual of one class that is not of another, by the entries by which the classes stand. Class 0 is
-- nothing: as the other it is left out, and as the one it has no world.
abbrev pub apart_by : Setup → Option ℕ → Option ℕ → ℕ → Outcome
apart_by S None b n = failed
apart_by S (Some a) None n = search_in S (seed_of_one a) n
apart_by S (Some a) (Some b) n = search_in S (seed_of_not a b) n

-- "a not b" for class numbers
abbrev pub apart : Setup → List ℕ → ℕ → ℕ → ℕ → Outcome
apart S cs a b n = apart_by S (stand cs a) (stand cs b) n
