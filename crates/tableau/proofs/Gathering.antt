-- What the lists of each number, one after another, hold.
use Rattle.std.proofs.Common.{◌≡◌, ℕ, zero, suc, ◌+◌, ◌-◌, ◌<◌, List, ◌++◌, length, get_or, sym, refl, ap, ◌∙◌, subst, ⊎_elim, arith}
use Rattle.std.proofs.lemmas.List.{length-append, get_or_append_left, get_or-append_right}
use Rattle.std.proofs.lemmas.Bool.{cases_lt, cases_eq}
use Rattle.tableau.specs.Folds.{gather}

-- something holds of each element
abbrev pub Each : {A : Type 0} → A → (A → Type 0) → List A → Type 0
Each d P xs = (k : ℕ) → k < length xs → P (get_or xs k d)

-- of each of two lists, so of one after the other
each_append : {A : Type 0} (d : A) (P : A → Type 0) (xs ys : List A) → Each d P xs → Each d P ys → Each d P (xs ++ ys)
each_append d P xs ys a b k l = ⊎_elim
    (λ low. subst P (sym (get_or_append_left xs ys d k low)) (a k low))
    (λ high.
    let n = length xs in
    let e = length-append xs ys in
    subst P (sym (get_or-append_right xs ys n k d refl high)) (b (k - n) (omega arith)))
    (cases_lt k (length xs))

-- of each of all lists, so of all together
pub gather_each : {A : Type 0} (d : A) (P : A → Type 0) (n : ℕ) (f : ℕ → List A) → ((k : ℕ) → k < n → Each d P (f k)) → Each d P (gather n f)
unfolding gather
gather_each d P zero f each k l = absurd (omega arith)
gather_each d P (suc n) f each k l = each_append d P (gather n f) (f n) (gather_each d P n f (λ j m. each j (omega arith))) (each n (omega arith)) k l

-- an element of one of the lists is an element of all
pub record Among {A : Type 0} (d : A) (xs : List A) (x : A) : Type 0 where
  pub place : ℕ
  pub inside : place < length xs
  pub is : get_or xs place d ≡ x

-- an element of one of two lists is one of both together
among_left : {A : Type 0} (d x : A) (xs ys : List A) → Among d xs x → Among d (xs ++ ys) x
among_left d x xs ys a = record {
  place = a.place;
  inside = omega (arith, length-append xs ys, a.inside);
  is = get_or_append_left xs ys d a.place a.inside ∙ a.is;
}

among_right : {A : Type 0} (d x : A) (xs ys : List A) → Among d ys x → Among d (xs ++ ys) x
among_right d x xs ys a =
    let n = length xs in
    let back : n + a.place - n ≡ a.place = omega arith in
    record {
      place = n + a.place;
      inside = omega (arith, length-append xs ys, a.inside);
      is = get_or-append_right xs ys n (n + a.place) d refl (omega arith) ∙ ap (λ k. get_or ys k d) back ∙ a.is;
    }

-- and of one of all lists, of all together
pub gather_among : {A : Type 0} (d x : A) (n k : ℕ) (f : ℕ → List A) → k < n → Among d (f k) x → Among d (gather n f) x
unfolding gather
gather_among d x zero k f l a = absurd (omega arith)
gather_among d x (suc n) k f l a = ⊎_elim
    (λ (same : k ≡ n). among_right d x (gather n f) (f n) (rw same at a))
    (λ other. among_left d x (gather n f) (f n) (gather_among d x n k f (omega arith) a))
    (cases_eq k n)
