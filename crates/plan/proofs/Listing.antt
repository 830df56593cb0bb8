-- The list of the propagated restrictions grows one by one.
use Rattle.std.proofs.Common.{◌≡◌, ℕ, zero, suc, ◌+◌, ◌*◌, ◌<◌, ◌≤◌, Bool, true, false, cond, ltb, List, [], ◌∷◌, ◌++◌, length, get_or, set, sym, refl, ap, ◌∙◌, subst, ⊎_elim, suc-mul, add-one, arith, length-set}
use Rattle.std.proofs.lemmas.List.{append-nil, append_assoc, length-append, length_push, get_or_push, get_or_append_left, get_or-set_same, get_or-set_other}
use Rattle.std.proofs.lemmas.Bool.{cases_lt, cond-true, cond-false, lt-ltb}
use Rattle.meaning.specs.Books.{Book}
use Rattle.meaning.specs.Orders.{RoleBox}
use Rattle.tableau.specs.Folds.{gather}
use Rattle.tableau.specs.Working.{Propagated, propagates_by, propagated_by, propagated_list, nowhere}
use Rattle.plan.specs.declared.propagated.Propagations.{Propagations}
use Rattle.plan.specs.Listing.{noted_as, Lists, added}

-- the propagated restrictions of the entries below i
unfoldable pub propagated_to : RoleBox → Book → ℕ → List Propagated
propagated_to H K i = gather i (λ i. gather H.count (propagated_by H K i))

pub gather_none : {A : Type 0} (f : ℕ → List A) → gather 0 f ≡ []
unfolding gather
gather_none f = refl

pub gather_more : {A : Type 0} (n : ℕ) (f : ℕ → List A) → gather (n + 1) f ≡ gather n f ++ f n
unfolding gather
gather_more n f = ap (λ k. gather k f) (add-one n)

-- lists of at most b elements each
pub gather_short : {A : Type 0} (b n : ℕ) (f : ℕ → List A) → ((k : ℕ) → length (f k) ≤ b) → length (gather n f) ≤ n * b
unfolding gather
gather_short b zero f few = omega arith
gather_short b (suc n) f few =
    let e = length-append (gather n f) (f n) in
    let h = gather_short b n f few in
    let l = few n in
    omega (arith, suc-mul n b)

one_short : {A : Type 0} (b : Bool) (x : A) → length (cond b (x ∷ []) []) ≤ 1
one_short true x = omega arith
one_short false x = omega arith

-- the array with one more at place c
set_at : {A : Type 0} (c k : ℕ) (v d : A) (xs : List A) → c < length xs → k ≡ c → get_or (set xs c v) k d ≡ v
set_at c k v d xs l here = subst (λ j. get_or (set xs c v) j d ≡ v) (sym here) (get_or-set_same xs c v d l)

set_kept : {A : Type 0} (b : Bool) (c k : ℕ) (v d : A) (xs : List A) → k < c → get_or (cond b (set xs c v) xs) k d ≡ get_or xs k d
set_kept true c k v d xs l = get_or-set_other xs c k v d (λ (s : k ≡ c). omega arith)
set_kept false c k v d xs l = refl

long_kept : {A : Type 0} (b : Bool) (c n : ℕ) (v : A) (xs : List A) → length xs ≡ n → length (cond b (set xs c v) xs) ≡ n
long_kept true c n v xs e = length-set xs c v ∙ e
long_kept false c n v xs e = e

pub lists_more : (x : Propagations) (list : List Propagated) (i p : ℕ) → Lists x list → Lists (added x i p) (list ++ record { origin = i; role = p } ∷ [])
lists_more x list i p h =
    let one : Propagated = record { origin = i; role = p } in
    record {
      long = long_kept (ltb x.count 64) x.count 64 (noted_as one) x.noted h.long;
      counted = ap (λ n. n + 1) h.counted ∙ sym (length_push list one);
      held = λ k l few. ⊎_elim
          (λ old.
          set_kept (ltb x.count 64) x.count k (noted_as one) (noted_as nowhere) x.noted (omega (arith, h.counted)) ∙ h.held k old few
          ∙ sym (ap noted_as (get_or_append_left list (one ∷ []) nowhere k old)))
          (λ new.
          let here : k ≡ length list = omega (arith, length_push list one) in
          ap (λ b. get_or (cond b (set x.noted x.count (noted_as one)) x.noted) k (noted_as nowhere)) (lt-ltb x.count 64 (omega (arith, h.counted)))
          ∙ set_at x.count k (noted_as one) (noted_as nowhere) x.noted (omega (arith, h.counted, h.long)) (omega (arith, h.counted))
          ∙ sym (ap noted_as (get_or_push list one nowhere k (sym here))))
          (cases_lt k (length list));
    }

pub lists_none : (x : Propagations) → x.count ≡ 0 → length x.noted ≡ 64 → Lists x []
lists_none x none long = record { long = long; counted = none; held = λ k l few. absurd (omega arith) }

module _ (H : RoleBox) (K : Book) where
  -- those of the entries below i, and of entry i those by the roles below p
  abbrev pub so_far : ℕ → ℕ → List Propagated
  so_far i p = propagated_to H K i ++ gather p (propagated_by H K i)

  by_short : (i n : ℕ) → length (gather n (propagated_by H K i)) ≤ n
  by_short i n = omega (arith, gather_short 1 n (propagated_by H K i) (λ p. one_short (propagates_by H (K.concept i) p) (record { origin = i; role = p })))

  pub short_so_far : (i p : ℕ) → H.count ≤ 64 → length (so_far i p) ≤ i * 64 + p
  unfolding propagated_to
  short_so_far i p few =
      let a = gather_short 64 i (λ i. gather H.count (propagated_by H K i)) (λ k. omega (arith, by_short k H.count)) in
      omega (arith, length-append (propagated_to H K i) (gather p (propagated_by H K i)), by_short i p)

  pub far_none : (i : ℕ) → so_far i 0 ≡ propagated_to H K i
  far_none i = ap (λ xs. propagated_to H K i ++ xs) (gather_none (propagated_by H K i)) ∙ append-nil (propagated_to H K i)

  far_more : (i p : ℕ) → so_far i (p + 1) ≡ so_far i p ++ propagated_by H K i p
  far_more i p =
      ap (λ xs. propagated_to H K i ++ xs) (gather_more p (propagated_by H K i))
      ∙ sym (append_assoc (propagated_to H K i) (gather p (propagated_by H K i)) (propagated_by H K i p))

  pub far_in : (i p : ℕ) (x : Propagations) → propagates_by H (K.concept i) p ≡ true → Lists x (so_far i p) → Lists (added x i p) (so_far i (p + 1))
  far_in i p x e h =
      let one : Propagated = record { origin = i; role = p } in
      subst (Lists (added x i p)) (sym (far_more i p ∙ ap (λ xs. so_far i p ++ xs) (cond-true (propagates_by H (K.concept i) p) (one ∷ []) [] e)))
      (lists_more x (so_far i p) i p h)

  pub far_out : (i p : ℕ) (x : Propagations) → propagates_by H (K.concept i) p ≡ false → Lists x (so_far i p) → Lists x (so_far i (p + 1))
  far_out i p x e h =
      let one : Propagated = record { origin = i; role = p } in
      subst (Lists x)
      (sym (far_more i p ∙ ap (λ xs. so_far i p ++ xs) (cond-false (propagates_by H (K.concept i) p) (one ∷ []) [] e) ∙ append-nil (so_far i p)))
      h

  -- with every role, those of the entry are complete
  pub far_all : (i p : ℕ) → p ≡ H.count → so_far i p ≡ propagated_to H K (i + 1)
  unfolding propagated_to
  far_all i p e =
      ap (so_far i) e ∙ sym (gather_more i (λ i. gather H.count (propagated_by H K i)))

  pub to_none : propagated_to H K 0 ≡ []
  unfolding propagated_to
  to_none = gather_none (λ i. gather H.count (propagated_by H K i))

  pub to_all : (i : ℕ) → i ≡ K.entries → propagated_to H K i ≡ propagated_list H K
  unfolding propagated_to propagated_list
  to_all i e = ap (λ n. gather n (λ i. gather H.count (propagated_by H K i))) e

  pub of_short : H.count ≤ 64 → length (propagated_list H K) ≤ K.entries * 64
  unfolding propagated_list
  of_short few = gather_short 64 K.entries (λ i. gather H.count (propagated_by H K i)) (λ i. omega (arith, by_short i H.count))
