-- What a search asks of its strategy, and the search over it as a recursion.
use Rattle.std.specs.Prelude.{◌≡◌, ℕ, zero, suc, ◌^◌, ◌≤◌, Bool, true, false, cond, List, [], ◌∷◌, ◌++◌, length, Some, None, Option, Ok, Err, Result, nat_le}
use Rattle.tableau.specs.declared.Label.{Label}
use Rattle.tableau.specs.Labels.{any_contains}
use Rattle.search.specs.declared.NoRoom.{NoRoom}
use Rattle.tableau.specs.Search.{Outcome, failed, full, stands, Searcher, or_else, and_then, reuse}

-- the expansions of a seed from a choice word on, and the seeds of the obligations of a label from an entry on
pub record Game : Type 0 where
  pub labels_from : Label → ℕ → List Label
  pub seeds_from : Label → ℕ → List Label

-- a seed has few expansions, and a label few obligations
pub record Bounded (G : Game) : Type 0 where
  pub labels_few : (s : Label) (c : ℕ) → length (G.labels_from s c) ≤ 2 ^ 63
  pub seeds_few : (l : Label) (k : ℕ) → length (G.seeds_from l k) ≤ 64

-- the first label of what stands from place c on, with the place to go on from; none where nothing stands there
abbrev pub Leads : (ℕ → List Label) → ℕ → Option (Label × ℕ) → Type 0
Leads from c None = from c ≡ []
Leads from c (Some p) = from c ≡ p.0 ∷ from p.1

-- pursues the seeds one after another: a standing label that contains one is reused, else a new node is searched for
unfoldable pub run_seeds : Searcher → List Label → List Label → Outcome
run_seeds sub [] st = stands st
run_seeds sub (t ∷ ts) st = and_then (reuse (any_contains st t) sub st t) (run_seeds sub ts)

module _ (G : Game) where
  -- tries the expansions in order, each from the labels that stood before
  unfoldable pub try_all : Searcher → List Label → List Label → Outcome
  try_all sub [] st = failed
  try_all sub (e ∷ es) st = or_else (run_seeds sub (G.seeds_from e 0) (st ++ e ∷ [])) (λ u. try_all sub es st)

  -- the search from a seed in n nodes, where the labels st stand; its depth never exceeds the room that is left
  unfoldable pub explore_by : ℕ → ℕ → Searcher
  explore_by n zero st seed = full
  explore_by n (suc k) st seed = cond (nat_le n (length st)) full (try_all (explore_by n k) (G.labels_from seed 0) st)

-- does a world come of it: yes, no, or unknown for want of room
abbrev pub told : Outcome → Result Bool NoRoom
told failed = Ok false
told full = Err (record {})
told (stands ls) = Ok true
