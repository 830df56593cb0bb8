-- What the searches of a register say of the worlds that keep the book.
use Rattle.std.proofs.Common.{◌≡◌, ℕ, zero, suc, ◌-◌, ◌^◌, ◌<◌, ◌≤◌, Bool, true, false, List, [], length, get_or, sym, refl, ap, ◌∙◌, arith}
use Rattle.std.proofs.lemmas.Bool.{leb-true}
use Rattle.meaning.specs.Worlds.{Interpretation, holds}
use Rattle.meaning.specs.Orders.{RoleBox}
use Rattle.meaning.specs.Universal.{with_universal}
use Rattle.meaning.specs.Books.{Book, Keeps}
use Rattle.tableau.specs.declared.Label.{Label}
use Rattle.tableau.specs.Labels.{empty, put}
use Rattle.tableau.specs.Search.{failed, full, stands, explore}
use Rattle.tableau.specs.Working.{table_of, width_of, book_entry, everywhere_entry, rooted, seed_of_not, seed_of_one}
use Rattle.tableau.specs.Promises.{Opens, search_from, found_world, Realised}
use Rattle.tableau.proofs.Labelling.{put_in, put_keeps}
use Rattle.tableau.proofs.Succeeding.{success_is_right}
use Rattle.tableau.proofs.Deciding.{failure_is_right, room_suffices, seed_not_fits, seed_one_fits, satisfies_one, satisfies_not}
use Rattle.runs.specs.Setups.{setup, root_in, search_in, SearchesAgree, stand, apart}
use Rattle.runs.specs.Steps.{given}
use Rattle.runs.specs.Runs.{Separated}

-- a finite world that keeps the book has an individual in the entry
pub record Inhabited (H : RoleBox) (K : Book) (a : ℕ) : Type 0 where
  pub world : Interpretation
  pub keeps : Keeps H K world
  pub individual : ℕ
  pub there : individual < world.size
  pub inside : holds world K.concept a individual ≡ true

-- is x of the class, the classes from 1 on standing by the entries
abbrev pub member : Book → List ℕ → Interpretation → ℕ → ℕ → Bool
member K cs W zero x = false
member K cs W (suc a) x = holds W K.concept (get_or cs a 0) x

-- the world keeps the book, and its individual 0 is of class a and not of class b
pub record Apart (H : RoleBox) (K : Book) (cs : List ℕ) (a b : ℕ) (W : Interpretation) : Type 0 where
  pub keeps : Keeps H K W
  pub inside : member K cs W a 0 ≡ true
  pub outside : member K cs W b 0 ≡ false

-- every finite world that keeps the book puts all of class a into class b
abbrev pub Under : RoleBox → Book → List ℕ → ℕ → ℕ → Type 0
Under H K cs a b = (W : Interpretation) → Keeps H K W → (x : ℕ) → x < W.size → member K cs W a x ≡ true → member K cs W b x ≡ true

-- book and everywhere are the last two working entries
root_same : (H : RoleBox) (K : Book) (s : Label) → root_in (table_of H K) s ≡ rooted H K s
root_same H K s =
    let last : width_of H K - 1 ≡ everywhere_entry H K = omega arith in
    let other : width_of H K - 2 ≡ book_entry H K = omega arith in
    ap (λ k. put true k (put true (width_of H K - 2) s)) last ∙ ap (λ k. put true (everywhere_entry H K) (put true k s)) other

-- the searches of a register are those of the theorems
pub searches_agree : SearchesAgree
searches_agree H K = record {
  outcome = λ s n. ap (explore (with_universal H) (table_of H K) n n []) (root_same H K s);
  world = λ ls. refl;
}

module _ (H : RoleBox) (K : Book) (P : Opens H K) where
  search_same : (s : Label) (n : ℕ) → search_from H K s n ≡ search_in (setup H K) s n
  search_same s n = sym ((searches_agree H K).outcome s n)

  -- "a not b" fails: no world holds an individual of a outside b
  pub not_failed : (a b n : ℕ) → a < K.entries → b < K.entries → search_in (setup H K) (seed_of_not a b) n ≡ failed → Separated H K a b → ⊥
  not_failed a b n l m e s =
      failure_is_right H K P (seed_of_not a b) (seed_not_fits K a b l m) n (search_same (seed_of_not a b) n ∙ e) s.world s.keeps s.individual s.there
      (satisfies_not K s.world s.individual a b s.inside s.outside)

  -- "a" fails: no world has an individual in a
  pub one_failed : (a n : ℕ) → a < K.entries → search_in (setup H K) (seed_of_one a) n ≡ failed → Inhabited H K a → ⊥
  one_failed a n l e s =
      failure_is_right H K P (seed_of_one a) (seed_one_fits K a l) n (search_same (seed_of_one a) n ∙ e) s.world s.keeps s.individual s.there
      (satisfies_one K s.world s.individual a s.inside)

  not_stood : (a b n : ℕ) → a < K.entries → b < K.entries → (ls : List Label) → search_in (setup H K) (seed_of_not a b) n ≡ stands ls → Realised H K (seed_of_not a b) ls
  not_stood a b n l m ls e = success_is_right H K P (seed_of_not a b) (seed_not_fits K a b l m) n ls (search_same (seed_of_not a b) n ∙ e)

  one_stood : (a n : ℕ) → a < K.entries → (ls : List Label) → search_in (setup H K) (seed_of_one a) n ≡ stands ls → Realised H K (seed_of_one a) ls
  one_stood a n l ls e = success_is_right H K P (seed_of_one a) (seed_one_fits K a l) n ls (search_same (seed_of_one a) n ∙ e)

  not_inside : (a b : ℕ) (ls : List Label) → Realised H K (seed_of_not a b) ls → holds (found_world H K ls) K.concept a 0 ≡ true
  not_inside a b ls r = r.satisfies true a (put_keeps false b (put true a empty) true a (put_in true a empty))

  not_outside : (a b : ℕ) (ls : List Label) → Realised H K (seed_of_not a b) ls → holds (found_world H K ls) K.concept b 0 ≡ false
  not_outside a b ls r = r.satisfies false b (put_in false b (put true a empty))

  -- "a not b" stands: the found world separates them
  pub not_separated : (a b n : ℕ) → a < K.entries → b < K.entries → (ls : List Label) → search_in (setup H K) (seed_of_not a b) n ≡ stands ls → Separated H K a b
  not_separated a b n l m ls e =
      let r = not_stood a b n l m ls e in
      record { world = found_world H K ls; keeps = r.keeps; individual = 0; there = r.inhabited; inside = not_inside a b ls r; outside = not_outside a b ls r }

  -- "a" stands: the found world has an individual in it
  pub one_inhabited : (a n : ℕ) → a < K.entries → (ls : List Label) → search_in (setup H K) (seed_of_one a) n ≡ stands ls → Inhabited H K a
  one_inhabited a n l ls e =
      let r = one_stood a n l ls e in
      record { world = found_world H K ls; keeps = r.keeps; individual = 0; there = r.inhabited; inside = r.satisfies true a (put_in true a empty) }

  -- with 3 ^ w nodes there is room
  pub not_full : (a b n : ℕ) → a < K.entries → b < K.entries → 3 ^ width_of H K ≤ n → search_in (setup H K) (seed_of_not a b) n ≡ full → ⊥
  not_full a b n l m room e = room_suffices H K P (seed_of_not a b) (seed_not_fits K a b l m) n room (search_same (seed_of_not a b) n ∙ e)

  pub one_full : (a n : ℕ) → a < K.entries → 3 ^ width_of H K ≤ n → search_in (setup H K) (seed_of_one a) n ≡ full → ⊥
  one_full a n l room e = room_suffices H K P (seed_of_one a) (seed_one_fits K a l) n room (search_same (seed_of_one a) n ∙ e)

  -- the same of classes that stand by entries of the book
  module _ (cs : List ℕ) (named : (k : ℕ) → k < length cs → get_or cs k 0 < K.entries) where
    -- a class number from 1 on has its entry
    under : (a : ℕ) → given cs (suc a) ≡ true → get_or cs a 0 < K.entries
    under a g = named a (omega (arith, leb-true (suc a) (length cs) g))

    pub apart_failed : (a b n : ℕ) → given cs a ≡ true → given cs b ≡ true → apart (setup H K) cs a b n ≡ failed
        → (W : Interpretation) → Keeps H K W → (x : ℕ) → x < W.size → member K cs W a x ≡ true → member K cs W b x ≡ false → ⊥
    unfolding stand
    apart_failed zero b n g h e W keeps x l i o = let z : ◌≡◌ {A = ℕ} 0 1 = cc in omega arith
    apart_failed (suc a) zero n g h e W keeps x l i o =
        one_failed (get_or cs a 0) n (under a g) e (record { world = W; keeps = keeps; individual = x; there = l; inside = i })
    apart_failed (suc a) (suc b) n g h e W keeps x l i o =
        not_failed (get_or cs a 0) (get_or cs b 0) n (under a g) (under b h) e
        (record { world = W; keeps = keeps; individual = x; there = l; inside = i; outside = o })

    pub apart_stood : (a b n : ℕ) → given cs a ≡ true → given cs b ≡ true → (ls : List Label) → apart (setup H K) cs a b n ≡ stands ls
        → Apart H K cs a b (found_world H K ls) × (0 < length ls)
    unfolding stand
    apart_stood zero b n g h ls e = absurd (let z : ◌≡◌ {A = ℕ} 0 1 = cc in omega arith)
    apart_stood (suc a) zero n g h ls e =
        let r = one_stood (get_or cs a 0) n (under a g) ls e in
        (record { keeps = r.keeps; inside = r.satisfies true (get_or cs a 0) (put_in true (get_or cs a 0) empty); outside = refl }, r.inhabited)
    apart_stood (suc a) (suc b) n g h ls e =
        let r = not_stood (get_or cs a 0) (get_or cs b 0) n (under a g) (under b h) ls e in
        (record { keeps = r.keeps; inside = not_inside (get_or cs a 0) (get_or cs b 0) ls r; outside = not_outside (get_or cs a 0) (get_or cs b 0) ls r }, r.inhabited)

    pub apart_full : (a b n : ℕ) → given cs a ≡ true → given cs b ≡ true → 3 ^ width_of H K ≤ n → apart (setup H K) cs a b n ≡ full → ⊥
    unfolding stand
    apart_full zero b n g h room e = let z : ◌≡◌ {A = ℕ} 0 1 = cc in omega arith
    apart_full (suc a) zero n g h room e = one_full (get_or cs a 0) n (under a g) room e
    apart_full (suc a) (suc b) n g h room e = not_full (get_or cs a 0) (get_or cs b 0) n (under a g) (under b h) room e
