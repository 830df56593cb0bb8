-- The depth that a search is given does not matter once there is enough, so the search is a fixed point.
use Rattle.std.proofs.Common.{◌≡◌, ℕ, zero, suc, ◌+◌, ◌≤◌, Bool, true, false, cond, leb, List, [], ◌∷◌, ◌++◌, length, sym, refl, ap, ◌∙◌, arith, length-append}
use Rattle.std.proofs.lemmas.Bool.{cond-true, le-leb}
use Rattle.tableau.specs.declared.Label.{Label}
use Rattle.tableau.specs.Labels.{any_contains}
use Rattle.tableau.specs.Search.{Outcome, failed, full, stands, Searcher, or_else, and_then, reuse}
use Rattle.search.specs.Games.{Game, run_seeds, try_all, explore_by}

-- what stands are at least b labels
abbrev pub Grew : ℕ → Outcome → Type 0
Grew b failed = Unit {0}
Grew b full = Unit {0}
Grew b (stands st) = b ≤ length st

abbrev Adds : Searcher → Type 0
Adds W = (st : List Label) (s : Label) → Grew (length st) (W st s)

abbrev Agree : ℕ → Searcher → Searcher → Type 0
Agree b W V = (st : List Label) (s : Label) → b ≤ length st → W st s ≡ V st s

grew_less : (a b : ℕ) (o : Outcome) → a ≤ b → Grew b o → Grew a o
grew_less a b failed h g = tt
grew_less a b full h g = tt
grew_less a b (stands st) h g = omega arith

grew_then : (b : ℕ) (o : Outcome) (k : List Label → Outcome) → Grew b o → ((st : List Label) → b ≤ length st → Grew b (k st)) → Grew b (and_then o k)
unfolding and_then
grew_then b failed k g h = tt
grew_then b full k g h = tt
grew_then b (stands st) k g h = h st g

grew_else : (b : ℕ) (o p : Outcome) → Grew b o → Grew b p → Grew b (or_else o (λ u. p))
unfolding or_else
grew_else b failed p g h = h
grew_else b full p g h = tt
grew_else b (stands st) p g h = g

grew_reuse : (x : Bool) (W : Searcher) (st : List Label) (t : Label) → Adds W → Grew (length st) (reuse x W st t)
unfolding reuse
grew_reuse true W st t a = omega arith
grew_reuse false W st t a = a st t

grew_room : (b : ℕ) (x : Bool) (o : Outcome) → Grew b o → Grew b (cond x full o)
grew_room b true o g = tt
grew_room b false o g = g

run_adds : (W : Searcher) → Adds W → (ts st : List Label) → Grew (length st) (run_seeds W ts st)
unfolding run_seeds
run_adds W a [] st = omega arith
run_adds W a (t ∷ ts) st =
    grew_then (length st) (reuse (any_contains st t) W st t) (run_seeds W ts) (grew_reuse (any_contains st t) W st t a)
    (λ u h. grew_less (length st) (length u) (run_seeds W ts u) h (run_adds W a ts u))

same_then : (b : ℕ) (o : Outcome) (k l : List Label → Outcome) → Grew b o → ((st : List Label) → b ≤ length st → k st ≡ l st) → and_then o k ≡ and_then o l
unfolding and_then
same_then b failed k l g h = refl
same_then b full k l g h = refl
same_then b (stands st) k l g h = h st g

same_reuse : (x : Bool) (W V : Searcher) (st : List Label) (t : Label) → W st t ≡ V st t → reuse x W st t ≡ reuse x V st t
unfolding reuse
same_reuse true W V st t e = refl
same_reuse false W V st t e = e

run_same : (b : ℕ) (W V : Searcher) → Agree b W V → Adds V → (ts st : List Label) → b ≤ length st → run_seeds W ts st ≡ run_seeds V ts st
unfolding run_seeds
run_same b W V e a [] st h = refl
run_same b W V e a (t ∷ ts) st h =
    ap (λ o. and_then o (run_seeds W ts)) (same_reuse (any_contains st t) W V st t (e st t h))
    ∙ same_then b (reuse (any_contains st t) V st t) (run_seeds W ts) (run_seeds V ts)
    (grew_less b (length st) (reuse (any_contains st t) V st t) h (grew_reuse (any_contains st t) V st t a))
    (λ u l. run_same b W V e a ts u l)

module _ (G : Game) where
  -- the label that is tried stands too
  try_adds : (W : Searcher) → Adds W → (es st : List Label) → Grew (suc (length st)) (try_all G W es st)
  unfolding try_all
  try_adds W a [] st = tt
  try_adds W a (e ∷ es) st =
      let longer : suc (length st) ≤ length (st ++ e ∷ []) = simp length-append (omega arith) in
      let r = run_seeds W (G.seeds_from e 0) (st ++ e ∷ []) in
      grew_else (suc (length st)) r (try_all G W es st)
      (grew_less (suc (length st)) (length (st ++ e ∷ [])) r longer (run_adds W a (G.seeds_from e 0) (st ++ e ∷ [])))
      (try_adds W a es st)

  pub explore_more : (n k : ℕ) (st : List Label) (s : Label) → Grew (suc (length st)) (explore_by G n k st s)
  unfolding explore_by
  explore_more n zero st s = tt
  explore_more n (suc k) st s =
      grew_room (suc (length st)) (leb n (length st)) (try_all G (explore_by G n k) (G.labels_from s 0) st)
      (try_adds (explore_by G n k) (λ u t. grew_less (length u) (suc (length u)) (explore_by G n k u t) (omega arith) (explore_more n k u t)) (G.labels_from s 0) st)

  explore_adds : (n k : ℕ) → Adds (explore_by G n k)
  explore_adds n k st s = grew_less (length st) (suc (length st)) (explore_by G n k st s) (omega arith) (explore_more n k st s)

  try_same : (b : ℕ) (W V : Searcher) → Agree (suc b) W V → Adds V → (es st : List Label) → b ≤ length st → try_all G W es st ≡ try_all G V es st
  unfolding try_all
  try_same b W V e a [] st h = refl
  try_same b W V e a (l ∷ ls) st h =
      let longer : suc b ≤ length (st ++ l ∷ []) = simp length-append (omega arith) in
      ap (λ o. or_else o (λ u. try_all G W ls st)) (run_same (suc b) W V e a (G.seeds_from l 0) (st ++ l ∷ []) longer)
      ∙ ap (λ o. or_else (run_seeds V (G.seeds_from l 0) (st ++ l ∷ [])) (λ u. o)) (try_same b W V e a ls st h)

  depth : (n f g : ℕ) (st : List Label) (s : Label) → n ≤ f + length st → n ≤ g + length st → explore_by G n f st s ≡ explore_by G n g st s
  unfolding explore_by
  depth n zero zero st s p q = refl
  depth n zero (suc g) st s p q = sym (cond-true _ full _ (le-leb n (length st) (omega arith)))
  depth n (suc f) zero st s p q = cond-true _ full _ (le-leb n (length st) (omega arith))
  depth n (suc f) (suc g) st s p q =
      ap (cond (leb n (length st)) full)
      (try_same (length st) (explore_by G n f) (explore_by G n g) (λ u t h. depth n f g u t (omega arith) (omega arith)) (explore_adds n g)
      (G.labels_from s 0) st (omega arith))

  pub unroll : (n : ℕ) (st : List Label) (s : Label)
      → explore_by G n n st s ≡ cond (leb n (length st)) full (try_all G (explore_by G n n) (G.labels_from s 0) st)
  unfolding explore_by
  unroll zero st s = sym (cond-true _ full _ (le-leb 0 (length st) (omega arith)))
  unroll (suc n) st s =
      ap (cond (leb (suc n) (length st)) full)
      (try_same (length st) (explore_by G (suc n) n) (explore_by G (suc n) (suc n))
      (λ u t h. depth (suc n) n (suc n) u t (omega arith) (omega arith)) (explore_adds (suc n) (suc n)) (G.labels_from s 0) st (omega arith))
