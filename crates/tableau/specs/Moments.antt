-- The moments of a search: which labels stand each time that an obligation is to be met, and which edge is chosen then.
use Rattle.std.specs.Prelude.{◌≡◌, ℕ, suc, ◌<◌, Bool, false, cond, List, [], ◌∷◌, ◌++◌, length, get_or, ◌≢◌, slice_index_or}
use Rattle.meaning.specs.Orders.{RoleBox}
use Rattle.tableau.specs.declared.Label.{Label}
use Rattle.tableau.specs.Labels.{empty, any_contains, lowest}
use Rattle.tableau.specs.Entries.{Table}
use Rattle.tableau.specs.Expansions.{expansions}
use Rattle.tableau.specs.Seeds.{obliged_at, seed_of, wants}
use Rattle.tableau.specs.Search.{failed, stands, pursue, try_each, explore}

-- The labels of the list are pairwise different.
abbrev pub Different : List Label → Type 0
Different ls = (i j : ℕ) → i < j → j < length ls → slice_index_or ls i empty ≢ slice_index_or ls j empty

-- From the seed, where the labels st stand, the expansion e has its turn: there is room, and all before it failed. The
-- nodes that it leads to are searched for down to depth k.
pub record Tried (H : RoleBox) (B : Table) (n k : ℕ) (st : List Label) (seed e : Label) : Type 0 where
  pub before : List Label
  pub after : List Label
  pub room : length st < n
  pub among : expansions B seed ≡ before ++ e ∷ after
  pub all_failed : try_each H B (explore H B n k) st before ≡ failed

-- `Moment H B n root k x i st`: in the search from the root's seed the labels st stand, node x is at work, and its
-- obligations before entry i are met. A node for the next one is searched for down to depth k.
pub data Moment (H : RoleBox) (B : Table) (n : ℕ) (root : Label) : ℕ → ℕ → ℕ → List Label → Type 0 where
  -- the root's node is made
  first : (k : ℕ) (e : Label) → n ≡ suc k → Tried H B n k [] root e → Moment H B n root k 0 0 (e ∷ [])
  -- the obligation at entry i, if there is one, is met
  next : (k x i : ℕ) (st ms : List Label) → Moment H B n root k x i st → i < B.width
      → pursue H B (explore H B n k) (slice_index_or st x empty) (obliged_at B (slice_index_or st x empty) i) st ≡ stands ms
      → Moment H B n root k x (suc i) ms
  -- no label contains the seed of the obligation, and a node is made for it, which is at work then
  deeper : (k x i r a : ℕ) (s : Bool) (st : List Label) (e : Label) → Moment H B n root (suc k) x i st → i < B.width
      → obliged_at B (slice_index_or st x empty) i ≡ wants r s a → any_contains st (seed_of H B (slice_index_or st x empty) r s a) ≡ false
      → Tried H B n k st (seed_of H B (slice_index_or st x empty) r s a) e
      → Moment H B n root k (length st) 0 (st ++ e ∷ [])

-- where the edge to the seed goes while st stands: to the lowest node that contains it, else to the node that is made next
abbrev pub chosen : List Label → Label → ℕ
chosen st seed = cond (any_contains st seed) (lowest st seed) (length st)

-- At entry i, node x of ls is obliged to a successor by r, in a or outside it. It was met when `before` stood; this left
-- `after`, all of which stands in ls. And the edge that is read off ls is the one chosen then.
pub record EdgeChosen (H : RoleBox) (B : Table) (n : ℕ) (root : Label) (ls : List Label) (x i r : ℕ) (s : Bool) (a : ℕ) : Type 0 where
  pub depth : ℕ
  pub before : List Label
  pub after : List Label
  pub later : List Label
  pub moment : Moment H B n root depth x i before
  pub label : get_or before x empty ≡ slice_index_or ls x empty
  pub met : pursue H B (explore H B n depth) (slice_index_or ls x empty) (wants r s a) before ≡ stands after
  pub lasts : ls ≡ after ++ later
  pub edge : lowest ls (seed_of H B (slice_index_or ls x empty) r s a) ≡ chosen before (seed_of H B (slice_index_or ls x empty) r s a)

-- One more node is wanted while all n stand: that is so at a moment, where the node at work is obliged at an entry to a
-- successor, and no standing label contains its seed.
pub record Crowded (H : RoleBox) (B : Table) (n : ℕ) (root : Label) : Type 0 where
  pub depth : ℕ
  pub node : ℕ
  pub entry : ℕ
  pub role : ℕ
  pub sign : Bool
  pub part : ℕ
  pub standing : List Label
  pub moment : Moment H B n root depth node entry standing
  pub all_stand : length standing ≡ n
  pub low : entry < B.width
  pub obliged : obliged_at B (slice_index_or standing node empty) entry ≡ wants role sign part
  pub unmet : any_contains standing (seed_of H B (slice_index_or standing node empty) role sign part) ≡ false
