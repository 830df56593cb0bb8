-- Room: the labels that stand are different sets of signed entries, and 3 ^ width nodes are enough for them.
use Rattle.std.proofs.Common.{◌≡◌, ℕ, zero, suc, ◌+◌, ◌-◌, ◌*◌, ◌^◌, ◌<◌, ◌≤◌, Bool, true, false, cond, leb, List, [], ◌∷◌, ◌++◌, length, get_or, sym, refl, ap, ◌∙◌, subst, inl, inr, ⊎_elim, pow-suc, arith, Option, None, Some}
use Rattle.std.specs.List.{AllByRecursion as All}
use Rattle.std.proofs.ByRecursion.{All-get_or, All-push}
use Rattle.std.proofs.lemmas.List.{get_or_append_left, get_or_push, length_push}
use Rattle.std.proofs.lemmas.Bool.{cases_lt, cases_eq, both_ways, leb-true, leb-false}
use Rattle.meaning.specs.Orders.{RoleBox}
use Rattle.meaning.specs.declared.Concept.TheVariants.{Restriction}
use Rattle.meaning.specs.declared.Quantifier.{Quantifier}
use Rattle.tableau.specs.declared.Label.{Label}
use Rattle.tableau.specs.declared.Entry.TheVariants.{Plain}
use Rattle.tableau.specs.declared.Demand.{Demand}
use Rattle.tableau.specs.Labels.{empty, in_label, put, any_contains}
use Rattle.tableau.specs.Entries.{Table, LowerEntry}
use Rattle.tableau.specs.Expansions.{clash, expansions}
use Rattle.tableau.specs.Seeds.{sign_of, obliged_at, seed_of, wants}
use Rattle.tableau.specs.Search.{Outcome, failed, full, stands, Searcher, reuse, pursue, meet_from, try_each, enter, explore}
use Rattle.tableau.specs.Moments.{Different, Tried, Moment, first, next, deeper}
use Rattle.tableau.specs.Saturation.{Holds, In}
use Rattle.tableau.proofs.Labelling.{in_empty, put_cases, contains_from, any_at}
use Rattle.tableau.proofs.Clashing.{one_sign}
use Rattle.tableau.proofs.Obligations.{obliging_at}
use Rattle.tableau.proofs.Outcomes.{then_cases, else_cases}
use Rattle.tableau.proofs.Standing.{in_right}
use Rattle.tableau.proofs.Growing.{Expansion, expansions_right}
use Rattle.tableau.proofs.Telling.{seed_stays, seed_part}
use Rattle.tableau.proofs.Choosing.{extends_length, extends_at, pursue_extends}
use Rattle.tableau.proofs.Pigeons.{pigeons}

-- each signed entry of the label is below w
abbrev pub Narrow : ℕ → Label → Type 0
Narrow w l = (s : Bool) (i : ℕ) → in_label l s i ≡ true → i < w

-- the label holds a signed entry
abbrev pub Holding : Label → Type 0
Holding l = (s : Bool) × (i : ℕ) × (in_label l s i ≡ true)

-- what is put in below w keeps a label narrow
narrow_put : (w : ℕ) (s : Bool) (i : ℕ) (l : Label) → i < w → Narrow w l → Narrow w (put s i l)
narrow_put w s i l b n t j e = ⊎_elim (λ p. omega (arith, p.1)) (λ q. n t j q) (put_cases s i l t j e)

-- an expansion of a narrow seed is narrow
narrow_expansion : (B : Table) (seed e : Label) → Narrow B.width seed → Expansion B seed e → Narrow B.width e
narrow_expansion B seed e n x s i h = ⊎_elim (λ l. l) (λ g. n s i (x.grew.old s i g h)) (cases_lt i B.width)

-- a successor's seed is narrow
seed_narrow : (B : Table) → ((i : ℕ) → LowerEntry i (B.entry i)) → (H : RoleBox) (l : Label) (r : ℕ) (s : Bool) (a : ℕ) → a < B.width → Narrow B.width (seed_of H B l r s a)
seed_narrow B lower H l r s a b = seed_stays H B l r (Narrow B.width) (record {
  part = λ u i q t c k m. narrow_put B.width (sign_of q u) c m (omega (arith, k.low, part_lower i q t c k.is));
  itself = λ u i q t c k e m. narrow_put B.width u i m k.low;
  propagated = λ u i q t c k j w e d m. narrow_put B.width u j m w;
}) s a (narrow_put B.width s a empty b (λ t i. in_empty t i))
  where
    part_lower : (i : ℕ) (q : Quantifier) (t c : ℕ) → B.entry i ≡ Plain (Restriction q t c) → c < i
    part_lower i q t c e = subst (LowerEntry i) e (lower i)

-- a label as a number in base 3: its first k entries, each absent, with + or with -
abbrev digit : Bool → Bool → ℕ
digit true m = 1
digit false true = 2
digit false false = 0

code : ℕ → Label → ℕ
code zero l = 0
code (suc k) l = code k l * 3 + digit (in_label l true k) (in_label l false k)

-- a digit is below 3, and so a code below 3 ^ k
digit_below : (p m : Bool) → digit p m < 3
digit_below true m = omega arith
digit_below false true = omega arith
digit_below false false = omega arith

code_below : (k : ℕ) (l : Label) → code k l < 3 ^ k
unfolding code
code_below zero l = omega arith
code_below (suc k) l = let e = pow-suc 3 k in omega (arith, code_below k l, digit_below (in_label l true k) (in_label l false k))

-- a label that holds something has a code above 0
digit_positive : (s p m : Bool) → cond s p m ≡ true → 0 < digit p m
digit_positive s true m e = omega arith
digit_positive s false true e = omega arith
digit_positive true false false e = absurd (both_ways false refl e)
digit_positive false false false e = absurd (both_ways false refl e)

code_positive : (k : ℕ) (l : Label) (s : Bool) (i : ℕ) → i < k → in_label l s i ≡ true → 0 < code k l
unfolding code
code_positive zero l s i b e = absurd (omega arith)
code_positive (suc k) l s i b e = ⊎_elim
    (λ (same : i ≡ k). omega (arith, positive s (rw same at e)))
    (λ other. omega (arith, code_positive k l s i (omega arith) e))
    (cases_eq i k)
  where
    positive : (s : Bool) → in_label l s k ≡ true → 0 < digit (in_label l true k) (in_label l false k)
    positive true e = digit_positive true (in_label l true k) (in_label l false k) e
    positive false e = digit_positive false (in_label l true k) (in_label l false k) e

-- labels with the same code have the same digits
same_digits : (k : ℕ) (l m : Label) → code k l ≡ code k m → (i : ℕ) → i < k → digit (in_label l true i) (in_label l false i) ≡ digit (in_label m true i) (in_label m false i)
unfolding code
same_digits zero l m e i b = absurd (omega arith)
same_digits (suc k) l m e i b =
    let p = digit_below (in_label l true k) (in_label l false k) in
    let q = digit_below (in_label m true k) (in_label m false k) in
    ⊎_elim
    (λ (same : i ≡ k). rw same (omega arith))
    (λ other. same_digits k l m (omega arith) i (omega arith))
    (cases_eq i k)

-- and the same digit is the same sign, where a label has not both
plus_digit : (p m q n : Bool) → digit p m ≡ digit q n → p ≡ true → q ≡ true
plus_digit p m true n e h = refl
plus_digit true m false true e h = absurd (omega arith)
plus_digit true m false false e h = absurd (omega arith)
plus_digit false m false n e h = absurd (both_ways false refl h)

minus_digit : (p m q n : Bool) → digit p m ≡ digit q n → (p ≡ true → m ≡ true → ⊥) → m ≡ true → n ≡ true
minus_digit p m q true e calm h = refl
minus_digit true true q false e calm h = absurd (calm refl refl)
minus_digit false true true false e calm h = absurd (omega arith)
minus_digit false true false false e calm h = absurd (omega arith)
minus_digit p false q false e calm h = absurd (both_ways false refl h)

-- of two labels with the same code, the one holds what the other, that does not clash, holds
codes_hold : (B : Table) (l m : Label) → Narrow B.width l → clash B l ≡ false → code B.width l ≡ code B.width m → Holds m l
codes_hold B l m narrow calm e true i h =
    plus_digit (in_label l true i) (in_label l false i) (in_label m true i) (in_label m false i) (same_digits B.width l m e i (narrow true i h)) h
codes_hold B l m narrow calm e false i h =
    let b = narrow false i h in
    minus_digit (in_label l true i) (in_label l false i) (in_label m true i) (in_label m false i) (same_digits B.width l m e i b) (one_sign B l calm i b) h

-- labels that stand: not empty, and all of different codes
record Apart (B : Table) (st : List Label) : Type 0 where
  some : All (λ l. 0 < code B.width l) st
  different : (i j : ℕ) → i < j → j < length st → code B.width (get_or st i empty) ≡ code B.width (get_or st j empty) → ⊥

-- are fewer than the codes
few_apart : (B : Table) (st : List Label) → Apart B st → length st < 3 ^ B.width
few_apart B st a =
    let p = code_below B.width empty in
    let m = pigeons (3 ^ B.width - 1) (length st) (λ i. code B.width (get_or st i empty) - 1)
    (λ i l. omega (arith, positive i l, code_below B.width (get_or st i empty)))
    (λ i j l k e. a.different i j l k (omega (arith, positive i (omega arith), positive j k))) in
    omega arith
  where
    positive : (i : ℕ) → i < length st → 0 < code B.width (get_or st i empty)
    positive i l = All-get_or (λ l. 0 < code B.width l) st i empty l a.some

-- a seed for a new node
record Fresh (B : Table) (st : List Label) (seed : Label) : Type 0 where
  narrow : Narrow B.width seed
  holding : Holding seed
  new : any_contains st seed ≡ false

-- an expansion of such a seed is apart from those that stand, none of which contains the seed
push_apart : (B : Table) (st : List Label) (seed e : Label) → Apart B st → Fresh B st seed → Expansion B seed e → Apart B (st ++ e ∷ [])
push_apart B st seed e a f x = record {
  some = All-push (λ l. 0 < code B.width l) st e a.some (code_positive B.width e f.holding.0 f.holding.1 (narrow f.holding.0 f.holding.1 there) there);
  different = λ i j l k same. ⊎_elim
      (λ (last : j ≡ length st). new i (omega arith) (sym (before i (omega arith)) ∙ same ∙ ap (code B.width) (get_or_push st e empty j (sym last))))
      (λ other. a.different i j l (omega (arith, length_push st e)) (sym (before i (omega (arith, length_push st e))) ∙ same ∙ before j (omega (arith, length_push st e))))
      (cases_eq j (length st));
}
  where
    narrow : Narrow B.width e
    narrow = narrow_expansion B seed e f.narrow x

    there : in_label e f.holding.0 f.holding.1 ≡ true
    there = x.grew.holds f.holding.0 f.holding.1 f.holding.2

    before : (i : ℕ) → i < length st → code B.width (get_or (st ++ e ∷ []) i empty) ≡ code B.width (get_or st i empty)
    before i l = ap (code B.width) (get_or_append_left st (e ∷ []) empty i l)

    new : (i : ℕ) → i < length st → code B.width (get_or st i empty) ≡ code B.width e → ⊥
    new i l same =
        let h = codes_hold B e (get_or st i empty) narrow x.full.calm (sym same) in
        both_ways (any_contains st seed) f.new (any_at st i seed l (contains_from (get_or st i empty) seed (λ s k y. h s k (x.grew.holds s k y))))

-- What a search in n nodes comes to, with k more of depth: it is full only where n is small, and what stands is apart.
abbrev Fits : Table → ℕ → ℕ → Outcome → Type 0
Fits B n k failed = Unit {0}
Fits B n k full = n < 3 ^ B.width
Fits B n k (stands ls) = Apart B ls × (n ≤ length ls + k)

-- with more depth it fits too
fits_deeper : (B : Table) (n k : ℕ) (o : Outcome) → Fits B n k o → Fits B n (suc k) o
fits_deeper B n k failed f = tt
fits_deeper B n k full f = f
fits_deeper B n k (stands ls) f = (f.0, omega (arith, f.1))

module _ (H : RoleBox) (B : Table) (lower : (i : ℕ) → LowerEntry i (B.entry i)) (n : ℕ) where
  -- the search for a further node fits
  abbrev Roomy : ℕ → Searcher → Type 0
  Roomy k sub = (st : List Label) (seed : Label) → Apart B st → n ≤ length st + k → Fresh B st seed → Fits B n k (sub st seed)

  -- the seed of an obligation that no standing label contains is one for a new node
  obligation_fresh : (l : Label) → Narrow B.width l → (i r : ℕ) (s : Bool) (a : ℕ) → obliged_at B l i ≡ wants r s a
      → (st : List Label) → any_contains st (seed_of H B l r s a) ≡ false → Fresh B st (seed_of H B l r s a)
  obligation_fresh l p i r s a e st new =
      let k = obliging_at B l i r s a e in
      let low : a < i = subst (LowerEntry i) k.is (lower i) in
      record { narrow = seed_narrow B lower H l r s a (omega (arith, p k.sign i k.held)); holding = (s, a, seed_part H B l r s a); new = new }

  -- an obligation, several, the expansions, and the search at each depth fit
  pursue_fits : (k : ℕ) (sub : Searcher) → Roomy k sub → (l : Label) → Narrow B.width l → (i : ℕ) (o : Option Demand) → obliged_at B l i ≡ o
      → (st : List Label) → Apart B st → n ≤ length st + k → Fits B n k (pursue H B sub l o st)
  unfolding pursue reuse
  pursue_fits k sub good l p i None w st a b = (a, b)
  pursue_fits k sub good l p i (Some d) w st a b = go (any_contains st seed) refl
    where
      seed : Label
      seed = seed_of H B l d.role d.sign d.part

      go : (c : Bool) → any_contains st seed ≡ c → Fits B n k (reuse c sub st seed)
      go true e = (a, b)
      go false e = good st seed a b (obligation_fresh l p i d.role d.sign d.part w st e)

  meet_fits : (k : ℕ) (sub : Searcher) → Roomy k sub → (l : Label) → Narrow B.width l → (d i : ℕ) (st : List Label) → Apart B st → n ≤ length st + k
      → Fits B n k (meet_from H B sub l d i st)
  unfolding meet_from
  meet_fits k sub good l p zero i st a b = (a, b)
  meet_fits k sub good l p (suc d) i st a b =
      let f = pursue_fits k sub good l p i (obliged_at B l i) refl st a b in
      then_cases (Fits B n k) (pursue H B sub l (obliged_at B l i) st) (meet_from H B sub l d (suc i)) (λ e. tt) (λ e. subst (Fits B n k) e f)
      (λ ls e. let g : Fits B n k (stands ls) = subst (Fits B n k) e f in meet_fits k sub good l p d (suc i) ls g.0 g.1)

  try_fits : (k : ℕ) (sub : Searcher) → Roomy k sub → (st : List Label) (seed : Label) → Apart B st → n ≤ length st + suc k → Fresh B st seed
      → (es : List Label) → ((e : Label) → In e es → Expansion B seed e) → Fits B n k (try_each H B sub st es)
  unfolding try_each
  try_fits k sub good st seed a b f [] right = tt
  try_fits k sub good st seed a b f (e ∷ es) right =
      let x = right e (inl refl) in
      let m = meet_fits k sub good e (narrow_expansion B seed e f.narrow x) B.width 0 (st ++ e ∷ []) (push_apart B st seed e a f x) (omega (arith, length_push st e)) in
      else_cases (Fits B n k) (meet_from H B sub e B.width 0 (st ++ e ∷ [])) (λ u. try_each H B sub st es)
      (λ o. try_fits k sub good st seed a b f es (λ c h. right c (inr h))) (λ o. subst (Fits B n k) o m) (λ ls o. subst (Fits B n k) o m)

  explore_fits : (k : ℕ) → Roomy k (explore H B n k)
  unfolding enter explore
  explore_fits zero st seed a b f = omega (arith, few_apart B st a)
  explore_fits (suc k) st seed a b f = go (explore_fits k) (leb n (length st)) refl
    where
      go : Roomy k (explore H B n k) → (c : Bool) → leb n (length st) ≡ c → Fits B n (suc k) (enter H B c (explore H B n k) st seed)
      go good true e = omega (arith, few_apart B st a, leb-true n (length st) e)
      go good false e = fits_deeper B n k (try_each H B (explore H B n k) st (expansions B seed))
          (try_fits k (explore H B n k) good st seed a b f (expansions B seed) (expansions_right B lower seed))

  -- the search from a root, where nothing stands
  root_fits : (seed : Label) → Narrow B.width seed → Holding seed → (o : Outcome) → explore H B n n [] seed ≡ o → Fits B n n o
  unfolding any_contains
  root_fits seed p h o e = subst (Fits B n n) e
      (explore_fits n [] seed (record { some = tt; different = λ i j l k. absurd (omega arith) }) (omega arith) (record { narrow = p; holding = h; new = refl }))

  -- With 3 ^ width nodes the search is never without room.
  pub roomy : 3 ^ B.width ≤ n → (seed : Label) → Narrow B.width seed → Holding seed → explore H B n n [] seed ≡ full → ⊥
  roomy room seed p h e = let f : n < 3 ^ B.width = root_fits seed p h full e in omega arith

-- Labels that stand are at most n: a node is entered only where fewer than n stand.
abbrev Within : ℕ → Outcome → Type 0
Within n failed = Unit {0}
Within n full = Unit {0}
Within n (stands ls) = length ls ≤ n

module _ (H : RoleBox) (B : Table) (n : ℕ) where
  -- the search for a further node leaves at most n
  abbrev Sparing : Searcher → Type 0
  Sparing sub = (st : List Label) (seed : Label) → Within n (sub st seed)

  -- and so do an obligation, several, the expansions, and the search at each depth
  pursue_within : (sub : Searcher) → Sparing sub → (l : Label) (o : Option Demand) (st : List Label) → length st ≤ n → Within n (pursue H B sub l o st)
  unfolding pursue reuse
  pursue_within sub good l None st b = b
  pursue_within sub good l (Some d) st b = go (seed_of H B l d.role d.sign d.part) (any_contains st (seed_of H B l d.role d.sign d.part))
    where
      go : (seed : Label) (c : Bool) → Within n (reuse c sub st seed)
      go seed true = b
      go seed false = good st seed

  meet_within : (sub : Searcher) → Sparing sub → (l : Label) (d i : ℕ) (st : List Label) → length st ≤ n → Within n (meet_from H B sub l d i st)
  unfolding meet_from
  meet_within sub good l zero i st b = b
  meet_within sub good l (suc d) i st b =
      let f = pursue_within sub good l (obliged_at B l i) st b in
      then_cases (Within n) (pursue H B sub l (obliged_at B l i) st) (meet_from H B sub l d (suc i)) (λ e. tt) (λ e. tt)
      (λ ls e. meet_within sub good l d (suc i) ls (subst (Within n) e f))

  try_within : (sub : Searcher) → Sparing sub → (st : List Label) → length st < n → (es : List Label) → Within n (try_each H B sub st es)
  unfolding try_each
  try_within sub good st b [] = tt
  try_within sub good st b (e ∷ es) =
      let m = meet_within sub good e B.width 0 (st ++ e ∷ []) (omega (arith, length_push st e)) in
      else_cases (Within n) (meet_from H B sub e B.width 0 (st ++ e ∷ [])) (λ u. try_each H B sub st es)
      (λ o. try_within sub good st b es) (λ o. tt) (λ ls o. subst (Within n) o m)

  explore_within : (k : ℕ) → Sparing (explore H B n k)
  unfolding enter explore
  explore_within zero st seed = tt
  explore_within (suc k) st seed = go (explore_within k) (leb n (length st)) refl
    where
      go : Sparing (explore H B n k) → (c : Bool) → leb n (length st) ≡ c → Within n (enter H B c (explore H B n k) st seed)
      go good true e = tt
      go good false e = try_within (explore H B n k) good st (leb-false n (length st) e) (expansions B seed)

-- what holds at a moment: the labels that stand are apart and at most n, and node x is one of them
record Orderly (B : Table) (n k x : ℕ) (st : List Label) : Type 0 where
  apart : Apart B st
  deep : n ≤ length st + k
  few : length st ≤ n
  there : x < length st
  narrow : Narrow B.width (get_or st x empty)

module _ (H : RoleBox) (B : Table) (lower : (i : ℕ) → LowerEntry i (B.entry i)) (n : ℕ) where
  -- a node is made by an expansion of a fresh seed
  tried_orderly : (k : ℕ) (st : List Label) (seed e : Label) → Apart B st → n ≤ length st + suc k → Fresh B st seed → Tried H B n k st seed e
      → Orderly B n k (length st) (st ++ e ∷ [])
  tried_orderly k st seed e a b f t =
      let x = expansions_right B lower seed e (subst (In e) (sym t.among) (in_right e t.before (e ∷ t.after) (inl refl))) in
      record {
        apart = push_apart B st seed e a f x;
        deep = omega (arith, length_push st e);
        few = omega (arith, length_push st e, t.room);
        there = omega (arith, length_push st e);
        narrow = subst (Narrow B.width) (sym (get_or_push st e empty (length st) refl)) (narrow_expansion B seed e f.narrow x);
      }

  -- an obligation that is met adds labels that fit
  next_orderly : (k x i : ℕ) (st ms : List Label) → Orderly B n k x st
      → pursue H B (explore H B n k) (get_or st x empty) (obliged_at B (get_or st x empty) i) st ≡ stands ms → Orderly B n k x ms
  next_orderly k x i st ms o e =
      let l = get_or st x empty in
      let g : Fits B n k (stands ms) = subst (Fits B n k) e
      (pursue_fits H B lower n k (explore H B n k) (explore_fits H B lower n k) l o.narrow i (obliged_at B l i) refl st o.apart o.deep) in
      let longer = pursue_extends H B lower n k l (obliged_at B l i) st ms e in
      record {
        apart = g.0;
        deep = g.1;
        few = subst (Within n) e (pursue_within H B n (explore H B n k) (explore_within H B n k) l (obliged_at B l i) st o.few);
        there = omega (arith, o.there, extends_length st ms longer);
        narrow = subst (Narrow B.width) (sym (extends_at st ms longer x o.there)) o.narrow;
      }

  -- so all moments are
  moment_orderly : (root : Label) → Narrow B.width root → Holding root → (k x i : ℕ) (st : List Label) → Moment H B n root k x i st → Orderly B n k x st
  unfolding any_contains
  moment_orderly root p h k x i st (first j e up tried) = tried_orderly j [] root e
      (record { some = tt; different = λ i j l k. absurd (omega arith) }) (omega arith) (record { narrow = p; holding = h; new = refl }) tried
  moment_orderly root p h k x i st (next j y d ms ns m low e) = next_orderly j y d ms ns (moment_orderly root p h j y d ms m) e
  moment_orderly root p h k x i st (deeper j y d r a s ms e m low w new tried) =
      let o = moment_orderly root p h (suc j) y d ms m in
      tried_orderly j ms (seed_of H B (get_or ms y empty) r s a) e o.apart o.deep
      (obligation_fresh H B lower n (get_or ms y empty) o.narrow d r s a w ms new) tried

  -- At every moment the labels that stand are different, and at most n.
  pub always_distinct : (root : Label) → Narrow B.width root → Holding root → (k x i : ℕ) (st : List Label) → Moment H B n root k x i st → Different st
  always_distinct root p h k x d st m i j l b same = (moment_orderly root p h k x d st m).apart.different i j l b (ap (code B.width) same)

  pub always_within : (root : Label) → Narrow B.width root → Holding root → (k x i : ℕ) (st : List Label) → Moment H B n root k x i st → length st ≤ n
  always_within root p h k x i st m = (moment_orderly root p h k x i st m).few

  -- n is within what stands and the depth, and the node at work stands
  pub always_deep : (root : Label) → Narrow B.width root → Holding root → (k x i : ℕ) (st : List Label) → Moment H B n root k x i st → n ≤ length st + k
  always_deep root p h k x i st m = (moment_orderly root p h k x i st m).deep

  pub always_there : (root : Label) → Narrow B.width root → Holding root → (k x i : ℕ) (st : List Label) → Moment H B n root k x i st → x < length st
  always_there root p h k x i st m = (moment_orderly root p h k x i st m).there
