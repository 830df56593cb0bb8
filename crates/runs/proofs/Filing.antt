-- What a filing comes to, and what it keeps true of the classes.
use Rattle.std.proofs.Common.{◌≡◌, ℕ, zero, suc, ◌+◌, ◌^◌, ◌<◌, ◌≤◌, Bool, true, false, not, ltb, ◌⊎◌, List, [], ◌∷◌, ◌++◌, length, get_or, Some, None, Option, Ok, Err, Result, sym, refl, ◌∙◌, subst, inl, inr, ⊎_elim, arith, length-append}
use lib.Seq.{get_or-append_seam}
use Rattle.std.proofs.lemmas.List.{get_or_append_left}
use Rattle.std.proofs.lemmas.Bool.{cases_lt, cond_both, not-false, ltb-true}
use Rattle.denial.specs.declared.Denial.{Denial}
use Rattle.denial.specs.declared.Report.{Report}
use Rattle.meaning.specs.Orders.{RoleBox}
use Rattle.meaning.specs.Books.{Book}
use Rattle.tableau.specs.Search.{Outcome, failed, full, stands}
use Rattle.tableau.specs.Working.{width_of, seed_of_not, seed_of_one}
use Rattle.tableau.specs.Promises.{Opens}
use Rattle.search.specs.declared.NoRoom.{NoRoom}
use Rattle.runs.specs.Setups.{setup, search_in}
use Rattle.runs.specs.Steps.{Reply, class, said, shown, refused, refusal, most, by_second_outcome, by_first_outcome, compared, placed_by, placed, filed, filed_at, placed_first, placing, or_next, file_step}
use Rattle.runs.specs.Runs.{Separated, Inseparable}
use Rattle.runs.proofs.Searching.{Inhabited, not_failed, not_separated, not_full, one_failed, one_inhabited, one_full}

-- a test that goes before what comes next, by cases
pub next_cases : {A : Type 0} (Q : A → Type 0) (b : Bool) (x : A) (next : Unit {0} → A) → (b ≡ true → Q x) → (b ≡ false → Q (next tt)) → Q (or_next b x next)
next_cases Q true x next f g = f refl
next_cases Q false x next f g = g refl

-- What is true of the classes at all times: they stand by entries of the book, some world has an individual in each, and
-- no two of them are inseparable.
pub record Kept (H : RoleBox) (K : Book) (cs : List ℕ) : Type 0 where
  pub named : (k : ℕ) → k < length cs → get_or cs k 0 < K.entries
  pub some : (k : ℕ) → k < length cs → Inhabited H K (get_or cs k 0)
  pub different : (j k : ℕ) → j < length cs → k < length cs → Inseparable H K (get_or cs j 0) (get_or cs k 0) → j ≡ k

pub kept_none : (H : RoleBox) (K : Book) → Kept H K []
kept_none H K = record {
  named = λ k l. absurd (omega arith);
  some = λ k l. absurd (omega arith);
  different = λ j k l m s. absurd (omega arith);
}

-- an entry belongs to class 0, where no world has an individual in it, or to the class from whose entry it is inseparable
abbrev pub Belongs : RoleBox → Book → List ℕ → ℕ → ℕ → Type 0
Belongs H K cs e p = ((p ≡ 0) × (Inhabited H K e → ⊥)) ⊎ ((k : ℕ) × (p ≡ suc k) × (k < length cs) × Inseparable H K e (get_or cs k 0))

-- the classes are as before, or the entry is one more, of the next number
abbrev pub Grown : List ℕ → ℕ → ℕ → List ℕ → Type 0
Grown cs e p ds = ((ds ≡ cs) × (p ≤ length cs)) ⊎ ((ds ≡ cs ++ e ∷ []) × (p ≡ suc (length cs)))

-- what the reply of a filing says of the classes then
pub record FiledRight (H : RoleBox) (K : Book) (cs : List ℕ) (e p : ℕ) (ds : List ℕ) : Type 0 where
  pub belongs : Belongs H K ds e p
  pub kept : Kept H K ds
  pub grown : Grown cs e p ds

-- a refusal changes nothing, and is not for want of room where there were 3 ^ w nodes
pub record RefusedRight (H : RoleBox) (K : Book) (n : ℕ) (r : Report) : Type 0 where
  pub room : r.number ≡ 15 → 3 ^ width_of H K ≤ n → ⊥

abbrev pub FileRight : RoleBox → Book → List ℕ → ℕ → ℕ → Reply → List ℕ → Type 0
FileRight H K cs e n (class p) ds = FiledRight H K cs e p ds
FileRight H K cs e n (said b) ds = ⊥
FileRight H K cs e n (shown m side) ds = ⊥
FileRight H K cs e n (refused r) ds = (ds ≡ cs) × RefusedRight H K n r

module _ (H : RoleBox) (K : Book) (P : Opens H K) (e n : ℕ) (entry : e < K.entries) where
  -- what comparing the entry with c says
  abbrev pub ComparedRight : ℕ → Result Bool NoRoom → Type 0
  ComparedRight c (Ok true) = Inseparable H K e c
  ComparedRight c (Ok false) = Inseparable H K e c → ⊥
  ComparedRight c (Err x) = 3 ^ width_of H K ≤ n → ⊥

  compared_right : (c : ℕ) → c < K.entries → ComparedRight c (compared (setup H K) e c n)
  unfolding compared
  compared_right c m = first (search_in (setup H K) (seed_of_not e c) n) refl
    where
      second : search_in (setup H K) (seed_of_not e c) n ≡ failed → (o : Outcome) → search_in (setup H K) (seed_of_not c e) n ≡ o → ComparedRight c (by_second_outcome o)
      second f failed g = (not_failed H K P e c n entry m f, not_failed H K P c e n m entry g)
      second f full g = λ room. not_full H K P c e n m entry room g
      second f (stands ls) g = λ i. i.1 (not_separated H K P c e n m entry ls g)

      first : (o : Outcome) → search_in (setup H K) (seed_of_not e c) n ≡ o → ComparedRight c (by_first_outcome o (λ u. by_second_outcome (search_in (setup H K) (seed_of_not c e) n)))
      first failed f = second f (search_in (setup H K) (seed_of_not c e) n) refl
      first full f = λ room. not_full H K P e c n entry m room f
      first (stands ls) f = λ i. i.0 (not_separated H K P e c n entry m ls f)

  -- what going through the classes ds, the first of them being number k, says
  abbrev pub PlaceRight : List ℕ → ℕ → Result (Option ℕ) Denial → Type 0
  PlaceRight ds k (Ok (Some j)) = (i : ℕ) × (i < length ds) × (j ≡ k + i) × Inseparable H K e (get_or ds i 0)
  PlaceRight ds k (Ok None) = (i : ℕ) → i < length ds → Inseparable H K e (get_or ds i 0) → ⊥
  PlaceRight ds k (Err d) = 3 ^ width_of H K ≤ n → ⊥

  -- the entry is not inseparable from c, and the rest says so
  place_shift : (c : ℕ) (ds : List ℕ) (k : ℕ) (o : Result (Option ℕ) Denial) → (Inseparable H K e c → ⊥) → PlaceRight ds (suc k) o → PlaceRight (c ∷ ds) k o
  place_shift c ds k (Ok (Some j)) r h = (suc h.0, omega (arith, h.1), omega (arith, h.2), h.3)
  place_shift c ds k (Ok None) r h = each
    where
      each : (i : ℕ) → i < length (c ∷ ds) → Inseparable H K e (get_or (c ∷ ds) i 0) → ⊥
      each zero l s = r s
      each (suc i) l s = h i (omega arith) s
  place_shift c ds k (Err d) r h = h

  placed_right : (ds : List ℕ) → ((i : ℕ) → i < length ds → get_or ds i 0 < K.entries) → (k : ℕ) → PlaceRight ds k (placed (setup H K) e n ds k)
  unfolding placed
  placed_right [] named k = λ i l s. absurd (omega arith)
  placed_right (c ∷ ds) named k =
      go (compared (setup H K) e c n) (compared_right c (named 0 (omega arith))) (placed_right ds (λ i l. named (suc i) (omega arith)) (suc k))
    where
      go : (o : Result Bool NoRoom) → ComparedRight c o → PlaceRight ds (suc k) (placed (setup H K) e n ds (suc k))
          → PlaceRight (c ∷ ds) k (placed_by o k (λ u. placed (setup H K) e n ds (suc k)))
      go (Ok true) r h = (0, omega arith, omega arith, r)
      go (Ok false) r h = place_shift c ds k (placed (setup H K) e n ds (suc k)) r h
      go (Err x) r h = r

  module _ (cs : List ℕ) (kept : Kept H K cs) where
    last : get_or (cs ++ e ∷ []) (length cs) 0 ≡ e
    last = get_or-append_seam cs e [] 0

    long : length (cs ++ e ∷ []) ≡ length cs + 1
    long = length-append cs (e ∷ [])

    before : (k : ℕ) → k < length cs → get_or (cs ++ e ∷ []) k 0 ≡ get_or cs k 0
    before k l = get_or_append_left cs (e ∷ []) 0 k l

    -- by cases on a class, old or new
    each : (Q : ℕ → ℕ → Type 0) → ((k : ℕ) → k < length cs → Q k (get_or cs k 0)) → Q (length cs) e
        → (k : ℕ) → k < length (cs ++ e ∷ []) → Q k (get_or (cs ++ e ∷ []) k 0)
    each Q old here k l = ⊎_elim
        (λ m. subst (Q k) (sym (before k m)) (old k m))
        (λ g. let same : k ≡ length cs = omega (arith, long) in
        subst (λ j. Q j (get_or (cs ++ e ∷ []) j 0)) (sym same) (subst (Q (length cs)) (sym last) here))
        (cases_lt k (length cs))

    -- one more class, of an entry that has an individual and is inseparable from none
    kept_more : Inhabited H K e → ((k : ℕ) → k < length cs → Inseparable H K e (get_or cs k 0) → ⊥) → Kept H K (cs ++ e ∷ [])
    kept_more some none = record {
      named = each (λ k c. c < K.entries) kept.named entry;
      some = each (λ k c. Inhabited H K c) kept.some some;
      different = λ j k l m.
          each (λ j c. Inseparable H K c (get_or (cs ++ e ∷ []) k 0) → j ≡ k)
          (λ i h. each (λ k d. Inseparable H K (get_or cs i 0) d → i ≡ k) (λ o p. kept.different i o h p) (λ s. absurd (none i h (s.1, s.0))) k m)
          (each (λ k d. Inseparable H K e d → length cs ≡ k) (λ o p s. absurd (none o p s)) (λ s. refl) k m)
          j l;
    }

    -- the entry, of which there is an individual, at its place
    at_right : Inhabited H K e → (o : Result (Option ℕ) Denial) → PlaceRight cs 1 o → FileRight H K cs e n (filed_at cs e o).reply (filed_at cs e o).classes
    at_right some (Ok (Some j)) h = record {
      belongs = inr (h.0, omega (arith, h.2), h.1, h.3);
      kept = kept;
      grown = inl (refl, omega (arith, h.1, h.2));
    }
    at_right some (Ok None) h =
        cond_both (ltb (length cs) most) (filed (class (length cs + 1)) (cs ++ e ∷ [])) (filed (refusal 14 most) cs)
        (λ f. FileRight H K cs e n f.reply f.classes)
        (λ t. record {
          belongs = inr (length cs, omega arith, omega (arith, long), subst (Inseparable H K e) (sym last) ((λ s. self s), (λ s. self s)));
          kept = kept_more some h;
          grown = inr (refl, omega arith);
        })
        (λ t. (refl, record { room = λ x r. omega arith }))
      where
        self : Separated H K e e → ⊥
        self s = let z : true ≡ false = sym s.inside ∙ s.outside in let y : ◌≡◌ {A = ℕ} 0 1 = cc in omega arith
    at_right some (Err d) h = (refl, record { room = λ x r. h r })

    pub filing_right : FileRight H K cs e n (filed_at cs e (placing (setup H K) cs e n)).reply (filed_at cs e (placing (setup H K) cs e n)).classes
    unfolding placing
    filing_right = go (search_in (setup H K) (seed_of_one e) n) refl
      where
        go : (o : Outcome) → search_in (setup H K) (seed_of_one e) n ≡ o
            → FileRight H K cs e n (filed_at cs e (placed_first o (λ u. placed (setup H K) e n cs 1))).reply (filed_at cs e (placed_first o (λ u. placed (setup H K) e n cs 1))).classes
        go failed f = record { belongs = inl (refl, λ s. one_failed H K P e n entry f s); kept = kept; grown = inl (refl, omega arith) }
        go full f = (refl, record { room = λ x r. one_full H K P e n entry r f })
        go (stands ls) f = at_right (one_inhabited H K P e n entry ls f) (placed (setup H K) e n cs 1) (placed_right cs kept.named 1)

-- the same where the entry may be none of the book
pub file_right : (H : RoleBox) (K : Book) → Opens H K → (cs : List ℕ) → Kept H K cs → (e n : ℕ)
    → FileRight H K cs e n (file_step (setup H K) cs e n).reply (file_step (setup H K) cs e n).classes
file_right H K P cs kept e n =
    next_cases (λ f. FileRight H K cs e n f.reply f.classes) (not (ltb e K.entries)) (filed (refusal 8 e) cs) (λ u. filed_at cs e (placing (setup H K) cs e n))
    (λ t. (refl, record { room = λ x r. omega arith }))
    (λ t. filing_right H K P e n (ltb-true e K.entries (not-false (ltb e K.entries) t)) cs kept)
