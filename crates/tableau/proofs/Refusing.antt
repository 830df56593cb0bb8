-- A search is full exactly where a node is wanted while all n stand: its depth starts at n, and each node that is made takes
-- one from it.
use Rattle.std.proofs.Common.{◌≡◌, ℕ, zero, suc, ◌+◌, ◌-◌, ◌<◌, ◌≤◌, Bool, true, false, leb, List, [], ◌∷◌, ◌++◌, length, get_or, sym, refl, ap, ◌∙◌, subst, ◌⊎◌, inl, inr, ⊎_elim, arith, Option, None, Some}
use Rattle.std.proofs.lemmas.List.{append_assoc, get_or_push}
use Rattle.std.proofs.lemmas.Bool.{leb-true, leb-false, le-leb}
use Rattle.meaning.specs.Orders.{RoleBox}
use Rattle.tableau.specs.declared.Label.{Label}
use Rattle.tableau.specs.declared.Demand.{Demand}
use Rattle.tableau.specs.Labels.{empty, any_contains}
use Rattle.tableau.specs.Entries.{Table, LowerEntry}
use Rattle.tableau.specs.Expansions.{expansions}
use Rattle.tableau.specs.Seeds.{obliged_at, seed_of, wants}
use Rattle.tableau.specs.Search.{failed, full, or_else, and_then, reuse, pursue, meet_from, try_each, enter, explore}
use Rattle.tableau.specs.Moments.{Tried, Moment, first, next, deeper, Crowded}
use Rattle.tableau.proofs.Tests.{never}
use Rattle.tableau.proofs.Outcomes.{then_cases, else_cases}
use Rattle.tableau.proofs.Choosing.{extends_at, pursue_extends, Starts, step_next, step_deeper, after_failed, failed_push}
use Rattle.tableau.proofs.Room.{Narrow, Holding, always_deep, always_within, always_there}

module _ (H : RoleBox) (B : Table) (lower : (i : ℕ) → LowerEntry i (B.entry i)) (n : ℕ) (root : Label) (narrow : Narrow B.width root) (holding : Holding root) where
  -- where the search for a further node is full, all n stand already, or do so at a moment of it
  abbrev Refuses : ℕ → Type 0
  Refuses k = (st : List Label) (seed : Label) → Starts H B lower n root k st seed → n ≤ length st + k → length st ≤ n → explore H B n k st seed ≡ full
      → (length st ≡ n) ⊎ Crowded H B n root

  -- so it is of an obligation, of several, of the expansions, and of the search at each depth
  pursue_full : (k : ℕ) → Refuses k → (l : Label) (x i : ℕ) (st : List Label) → Moment H B n root k x i st → get_or st x empty ≡ l → i < B.width
      → (o : Option Demand) → obliged_at B l i ≡ o → pursue H B (explore H B n k) l o st ≡ full → Crowded H B n root
  unfolding pursue reuse
  pursue_full k good l x i st m is low None w e = never cc
  pursue_full k good l x i st m is low (Some d) w e = go (any_contains st seed) refl e
    where
      seed : Label
      seed = seed_of H B l d.role d.sign d.part

      crowded : any_contains st seed ≡ false → length st ≡ n → Crowded H B n root
      crowded c all = record {
        depth = k;
        node = x;
        entry = i;
        role = d.role;
        sign = d.sign;
        part = d.part;
        standing = st;
        moment = m;
        all_stand = all;
        low = low;
        obliged = subst (λ z. obliged_at B z i ≡ Some d) (sym is) w;
        unmet = subst (λ z. any_contains st (seed_of H B z d.role d.sign d.part) ≡ false) (sym is) c;
      }

      go : (b : Bool) → any_contains st seed ≡ b → reuse b (explore H B n k) st seed ≡ full → Crowded H B n root
      go true c f = never cc
      go false c f = ⊎_elim (λ all. crowded c all) (λ more. more)
          (good st seed (step_deeper H B lower n root k x i st m l is low d.role d.sign d.part w c)
          (always_deep H B lower n root narrow holding k x i st m) (always_within H B lower n root narrow holding k x i st m) f)

  meet_full : (k : ℕ) → Refuses k → (l : Label) (x d i : ℕ) (st : List Label) → Moment H B n root k x i st → get_or st x empty ≡ l → i + d ≡ B.width
      → meet_from H B (explore H B n k) l d i st ≡ full → Crowded H B n root
  unfolding meet_from
  meet_full k good l x zero i st m is all = λ e. never cc
  meet_full k good l x (suc d) i st m is all =
      then_cases (λ o. o ≡ full → Crowded H B n root) (pursue H B (explore H B n k) l (obliged_at B l i) st) (meet_from H B (explore H B n k) l d (suc i))
      (λ o e. never cc)
      (λ o e. pursue_full k good l x i st m is (omega arith) (obliged_at B l i) refl o)
      (λ ms o e.
      let a = pursue_extends H B lower n k l (obliged_at B l i) st ms o in
      let p = always_there H B lower n root narrow holding k x i st m in
      meet_full k good l x d (suc i) ms (step_next H B lower n root k x i st m l is (omega arith) ms o) (extends_at st ms a x p ∙ is) (omega arith) e)

  try_full : (k : ℕ) → Refuses k → (st : List Label) (seed : Label) → Starts H B lower n root (suc k) st seed → length st < n
      → (before es : List Label) → expansions B seed ≡ before ++ es → try_each H B (explore H B n k) st before ≡ failed
      → try_each H B (explore H B n k) st es ≡ full → Crowded H B n root
  unfolding try_each
  try_full k good st seed starts room before [] are gone = λ e. never cc
  try_full k good st seed starts room before (e ∷ es) are gone =
      else_cases (λ o. o ≡ full → Crowded H B n root) (meet_from H B (explore H B n k) e B.width 0 (st ++ e ∷ [])) (λ u. try_each H B (explore H B n k) st es)
      (λ o later. try_full k good st seed starts room (before ++ e ∷ []) es (are ∙ sym (append_assoc before (e ∷ []) es)) (failed_push H B lower n root (explore H B n k) st before e gone o) later)
      (λ o h. meet_full k good e (length st) B.width 0 (st ++ e ∷ [])
      (starts k e refl (record { before = before; after = es; room = room; among = are; all_failed = gone })) (get_or_push st e empty (length st) refl) (omega arith) o)
      (λ ms o h. never cc)

  explore_full : (k : ℕ) → Refuses k
  unfolding explore enter try_each
  explore_full zero st seed starts deep few e = inl (omega arith)
  explore_full (suc k) st seed starts deep few e = go (explore_full k) (leb n (length st)) refl e
    where
      go : Refuses k → (b : Bool) → leb n (length st) ≡ b → enter H B b (explore H B n k) st seed ≡ full → (length st ≡ n) ⊎ Crowded H B n root
      go good true h f = inl (omega (arith, leb-true n (length st) h))
      go good false h f = inr (try_full k good st seed starts (leb-false n (length st) h) [] (expansions B seed) refl refl f)

  -- Where the search from the root is full, a node was wanted while all n stood.
  pub full_wanted : explore H B n n [] root ≡ full → (n ≡ 0) ⊎ Crowded H B n root
  full_wanted e = ⊎_elim (λ (none : 0 ≡ n). inl (sym none)) (λ c. inr c)
      (explore_full n [] root (λ j l up tried. first j l up tried) (omega arith) (omega arith) e)

  -- where all nodes stand, a further search is full
  no_room : (k : ℕ) (st : List Label) (seed : Label) → n ≤ length st → explore H B n k st seed ≡ full
  unfolding explore enter
  no_room zero st seed all = refl
  no_room (suc k) st seed all = ap (λ b. enter H B b (explore H B n k) st seed) (le-leb n (length st) all)

  -- where the obligation at i wants a node and finds no room, those from i on find none
  want_full : (k : ℕ) (l : Label) (i r : ℕ) (s : Bool) (a : ℕ) (st : List Label) → obliged_at B l i ≡ wants r s a → any_contains st (seed_of H B l r s a) ≡ false
      → explore H B n k st (seed_of H B l r s a) ≡ full → (d : ℕ) → meet_from H B (explore H B n k) l (suc d) i st ≡ full
  unfolding meet_from and_then pursue reuse
  want_full k l i r s a st w new e d = ap (λ o. and_then o (meet_from H B (explore H B n k) l d (suc i)))
      (ap (λ o. pursue H B (explore H B n k) l o st) w ∙ ap (λ b. reuse b (explore H B n k) st (seed_of H B l r s a)) new ∙ e)

  -- where the node of an expansion that has its turn finds no room, the search that it is tried in is full
  tried_full : (k : ℕ) (st : List Label) (seed e : Label) → Tried H B n k st seed e → meet_from H B (explore H B n k) e B.width 0 (st ++ e ∷ []) ≡ full
      → explore H B n (suc k) st seed ≡ full
  unfolding explore enter try_each or_else
  tried_full k st seed e t f = go (leb n (length st))
    where
      go : (b : Bool) → enter H B b (explore H B n k) st seed ≡ full
      go true = refl
      go false = ap (try_each H B (explore H B n k) st) t.among ∙ after_failed H B lower n root (explore H B n k) st t.before (e ∷ t.after) t.all_failed
          ∙ ap (λ o. or_else o (λ u. try_each H B (explore H B n k) st t.after)) f

  -- where the node at work of a moment finds no room, the search from the root is full
  moment_full : (k x i : ℕ) (st : List Label) → Moment H B n root k x i st → (d : ℕ) → i + d ≡ B.width
      → meet_from H B (explore H B n k) (get_or st x empty) d i st ≡ full → explore H B n n [] root ≡ full
  unfolding meet_from and_then
  moment_full k x i st (first j e up tried) d all f =
      let whole : d ≡ B.width = omega arith in
      subst (λ z. explore H B n z [] root ≡ full) (sym up) (tried_full j [] root e tried (subst (λ z. meet_from H B (explore H B n j) e z 0 (e ∷ []) ≡ full) whole f))
  moment_full k x i st (next j y c ms ns m low o) d all f =
      let a = pursue_extends H B lower n j (get_or ms y empty) (obliged_at B (get_or ms y empty) c) ms ns o in
      let p = always_there H B lower n root narrow holding j y c ms m in
      moment_full j y c ms m (suc d) (omega arith)
      (ap (λ z. and_then z (meet_from H B (explore H B n j) (get_or ms y empty) d (suc c))) o
      ∙ ap (λ l. meet_from H B (explore H B n j) l d (suc c) ns) (sym (extends_at ms ns a y p)) ∙ f)
  moment_full k x i st (deeper j y c r a s ms e m low w new tried) d all f =
      let l = get_or ms y empty in
      let whole : d ≡ B.width = omega arith in
      let same : meet_from H B (explore H B n j) e d 0 (ms ++ e ∷ []) ≡ full = subst (λ z. meet_from H B (explore H B n j) z d 0 (ms ++ e ∷ []) ≡ full) (get_or_push ms e empty (length ms) refl) f in
      moment_full (suc j) y c ms m (suc (B.width - suc c)) (omega arith)
      (want_full (suc j) l c r s a ms w new
      (tried_full j ms (seed_of H B l r s a) e tried
      (subst (λ z. meet_from H B (explore H B n j) e z 0 (ms ++ e ∷ []) ≡ full) whole same))
      (B.width - suc c))

  -- Where a node is wanted while all n stand, the search from the root is full.
  pub wanted_full : (n ≡ 0) ⊎ Crowded H B n root → explore H B n n [] root ≡ full
  wanted_full (inl none) = no_room n [] root (omega arith)
  wanted_full (inr c) =
      let low = c.low in
      let l = get_or c.standing c.node empty in
      moment_full c.depth c.node c.entry c.standing c.moment (suc (B.width - suc c.entry)) (omega arith)
      (want_full c.depth l c.entry c.role c.sign c.part c.standing c.obliged c.unmet
      (no_room c.depth c.standing (seed_of H B l c.role c.sign c.part) (omega (arith, c.all_stand))) (B.width - suc c.entry))
