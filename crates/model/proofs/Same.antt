-- The search over the expansions by choice words and the seeds by entries is the search of the definition.
use mathlib.Core.Path.{◌≡◌, refl, ap, ◌∙◌, fun_ext, subst}
use mathlib.Core.Bool.{Bool, true, false, cond}
use mathlib.Core.List.{List, [], ◌∷◌, ◌++◌}
use Prim.Native.Nat.{ℕ, zero, suc, ◌<◌}
use native.Mathlib.Nat.{sub-zero}
use Rattle.std.specs.Prelude.{Option, None, Some}
use lib.Dec.{leb}
use lib.ListN.{length}
use Rattle.meaning.specs.Orders.{RoleBox}
use Rattle.tableau.specs.declared.Label.{Label}
use Rattle.tableau.specs.declared.Demand.{Demand}
use Rattle.tableau.specs.Labels.{any_contains}
use Rattle.tableau.specs.Entries.{Table}
use Rattle.tableau.specs.Expansions.{expansions}
use Rattle.tableau.specs.Seeds.{obliged_at, seed_of}
use Rattle.tableau.specs.Search.{full, stands, Searcher, or_else, and_then, reuse, pursue, meet_from, try_each, enter, explore}
use Rattle.plan.specs.declared.Plan.{Plan}
use Rattle.plan.specs.Meanings.{table_in, box_in}
use Rattle.expand.proofs.Choosing.{from_start}
use Rattle.model.specs.Games.{game_in}
use Rattle.successor.specs.Obligations.{seed_before, seeds_up, seeds_from}
use Rattle.search.specs.Games.{Game, run_seeds, try_all, explore_by}
use Rattle.search.proofs.Fix.{Grew, explore_more}

module _ (H : RoleBox) (B : Table) where
  -- the seeds of the obligations from an entry on, pursued one after another
  seeds_same : (sub : Searcher) (l : Label) (d i : ℕ) (st : List Label) → run_seeds sub (seeds_up H B l d i) st ≡ meet_from H B sub l d i st
  unfolding run_seeds seeds_up meet_from pursue and_then
  seeds_same sub l zero i st = refl
  seeds_same sub l (suc d) i st = go (obliged_at B l i) (λ ss. seeds_same sub l d (suc i) ss)
    where
      go : (o : Option Demand) → ((ss : List Label) → run_seeds sub (seeds_up H B l d (suc i)) ss ≡ meet_from H B sub l d (suc i) ss)
          → run_seeds sub (seed_before H B l o (seeds_up H B l d (suc i))) st ≡ and_then (pursue H B sub l o st) (meet_from H B sub l d (suc i))
      go None rest = rest st
      go (Some d) rest =
          let seed = seed_of H B l d.role d.sign d.part in
          ap (and_then (reuse (any_contains st seed) sub st seed)) (fun_ext rest)

  module _ (G : Game) (seeds : (l : Label) → G.seeds_from l 0 ≡ seeds_up H B l B.width 0) (labels : (s : Label) → G.labels_from s 0 ≡ expansions B s) where
    try_same : (sub : Searcher) (es st : List Label) → try_all G sub es st ≡ try_each H B sub st es
    unfolding try_all try_each
    try_same sub [] st = refl
    try_same sub (e ∷ es) st =
        ap (λ o. or_else o (λ u. try_all G sub es st)) (ap (λ ts. run_seeds sub ts (st ++ e ∷ [])) (seeds e) ∙ seeds_same sub e B.width 0 (st ++ e ∷ []))
        ∙ ap (or_else (meet_from H B sub e B.width 0 (st ++ e ∷ []))) (fun_ext (λ u. try_same sub es st))

    enter_same : (b : Bool) (sub : Searcher) (st : List Label) (seed : Label) → cond b full (try_all G sub (expansions B seed) st) ≡ enter H B b sub st seed
    unfolding enter
    enter_same true sub st seed = refl
    enter_same false sub st seed = try_same sub (expansions B seed) st

    pub explore_same : (n k : ℕ) (st : List Label) (seed : Label) → explore_by G n k st seed ≡ explore H B n k st seed
    unfolding explore_by explore
    explore_same n zero st seed = refl
    explore_same n (suc k) st seed =
        ap (λ es. cond (leb n (length st)) full (try_all G (explore_by G n k) es st)) (labels seed)
        ∙ ap (λ sub. cond (leb n (length st)) full (try_all G sub (expansions B seed) st)) (fun_ext (λ ss. fun_ext (λ s. explore_same n k ss s)))
        ∙ enter_same (leb n (length st)) (explore H B n k) st seed

-- at a plan
pub find_same : (p : Plan) (n : ℕ) (seed : Label) → explore_by (game_in p) n n [] seed ≡ explore (box_in p) (table_in p) n n [] seed
unfolding seeds_from
find_same p n seed =
    explore_same (box_in p) (table_in p) (game_in p)
    (λ l. ap (λ d. seeds_up (box_in p) (table_in p) l d 0) (sub-zero p.width))
    (from_start (table_in p)) n n [] seed

-- a search that stands leaves a node at least
pub find_some : (p : Plan) (n : ℕ) (seed : Label) (ls : List Label) → explore (box_in p) (table_in p) n n [] seed ≡ stands ls → 0 < length ls
find_some p n seed ls e = subst (Grew 1) (find_same p n seed ∙ e) (explore_more (game_in p) n n [] seed)
