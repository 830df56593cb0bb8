-- The sets of the entries, one after another from the lowest.
use Rattle.std.proofs.Common.{◌≡◌, ℕ, zero, suc, ◌+◌, ◌<◌, ◌≤◌, Bool, not, ◌&&◌, ◌||◌, ◌≢◌, List, length, get_or, set, replicate, sym, refl, ap, ◌∙◌, ⊎_elim, arith, length-set, get_or-set_other, get_or-set_same}
use Rattle.std.proofs.lemmas.Nat.{pow_pos}
use Rattle.std.proofs.lemmas.Bool.{cases_eq}
use Rattle.words.specs.Sets.{has, set_of}
use Rattle.meaning.specs.Worlds.{Interpretation, denotes, holds, Lower}
use Rattle.meaning.specs.declared.Concept.{Concept}
use Rattle.meaning.specs.declared.Concept.TheVariants.{Nothing, Everything, Name, Not, And, Or, Restriction}
use Rattle.meaning.specs.declared.Quantifier.{Quantifier}
use Rattle.meaning.specs.declared.Quantifier.TheVariants.{Exists, Forall, NoneOf}
use Rattle.meaning.proofs.Meanings.{any_same, all_same, entries_mean}
use Rattle.sheet.specs.Judgements.{Inside}
use Rattle.sheet.proofs.Sets.{set_fits, set_same, has_set}

-- parts below i are below n
pub lower_more : (i n : ℕ) (c : Concept) → i ≤ n → Lower i c → Lower n c
lower_more i n Nothing l p = tt
lower_more i n Everything l p = tt
lower_more i n (Name m) l p = tt
lower_more i n (Not a) l p = omega arith
lower_more i n (And a b) l p = (omega arith, omega arith)
lower_more i n (Or a b) l p = (omega arith, omega arith)
lower_more i n (Restriction q r a) l p = omega arith

restricts : (W : Interpretation) (q : Quantifier) (r a : ℕ) (g h : ℕ → ℕ → Bool) → ((y : ℕ) → y < W.size → g a y ≡ h a y)
    → (x : ℕ) → denotes W (Restriction q r a) g x ≡ denotes W (Restriction q r a) h x
restricts W Exists r a g h e x = any_same W.size _ _ (λ y l. ap (λ b. W.joins r x y && b) (e y l))
restricts W Forall r a g h e x = all_same W.size _ _ (λ y l. ap (λ b. not (W.joins r x y) || b) (e y l))
restricts W NoneOf r a g h e x = all_same W.size _ _ (λ y l. ap (λ b. not (W.joins r x y) || not b) (e y l))

-- an individual is in a concept by what the individuals are in its parts
denotes_inside : (W : Interpretation) (i : ℕ) (c : Concept) → Lower i c → (g h : ℕ → ℕ → Bool)
    → ((a y : ℕ) → a < i → y < W.size → g a y ≡ h a y) → (x : ℕ) → x < W.size → denotes W c g x ≡ denotes W c h x
denotes_inside W i Nothing l g h e x u = refl
denotes_inside W i Everything l g h e x u = refl
denotes_inside W i (Name n) l g h e x u = refl
denotes_inside W i (Not a) l g h e x u = ap not (e a x l u)
denotes_inside W i (And a b) l g h e x u = ap (λ v. v && g b x) (e a x l.0 u) ∙ ap (λ v. h a x && v) (e b x l.1 u)
denotes_inside W i (Or a b) l g h e x u = ap (λ v. v || g b x) (e a x l.0 u) ∙ ap (λ v. h a x || v) (e b x l.1 u)
denotes_inside W i (Restriction q r a) l g h e x u = restricts W q r a g h (λ y v. e a y l v) x

-- the words are sets of individuals, and those of the entries below n are their sets
pub record Filled (W : Interpretation) (concept : ℕ → Concept) (n : ℕ) (sets : List ℕ) : Type 0 where
  pub long : length sets ≡ 64
  pub inside : Inside W.size sets
  pub known : (k : ℕ) → k < n → get_or sets k 0 ≡ set_of W.size (holds W concept k)

module _ (W : Interpretation) (concept : ℕ → Concept) (low : (i : ℕ) → Lower i (concept i)) where
  -- the set made from the sets of the parts is that of the entry
  made_right : (i w : ℕ) (sets : List ℕ) → Filled W concept i sets
      → w ≡ set_of W.size (denotes W (concept i) (λ a. has (get_or sets a 0))) → w ≡ set_of W.size (holds W concept i)
  made_right i w sets f e =
      e ∙ set_same W.size (denotes W (concept i) (λ a. has (get_or sets a 0))) (holds W concept i)
      (λ x l. denotes_inside W i (concept i) (low i) (λ a. has (get_or sets a 0)) (holds W concept)
      (λ a y u v. ap (λ s. has s y) (f.known a u) ∙ has_set W.size y (holds W concept a) v) x l
      ∙ sym (entries_mean W concept low i x))

  pub filled_more : (i w : ℕ) (sets : List ℕ) → i < 64 → Filled W concept i sets
      → w ≡ set_of W.size (denotes W (concept i) (λ a. has (get_or sets a 0))) → Filled W concept (i + 1) (set sets i w)
  filled_more i w sets l f e =
      let right = made_right i w sets f e in
      let room : i < length sets = omega (arith, f.long) in
      record {
        long = length-set sets i w ∙ f.long;
        inside = λ a. ⊎_elim
            (λ (same : a ≡ i). rw same (rw get_or-set_same (omega (arith, right, set_fits W.size (holds W concept i)))))
            (λ (other : a ≢ i). rw get_or-set_other (f.inside a))
            (cases_eq a i);
        known = λ k u. ⊎_elim
            (λ (same : k ≡ i). rw same (rw get_or-set_same right))
            (λ (other : k ≢ i). rw get_or-set_other (f.known k (omega arith)))
            (cases_eq k i);
      }

-- every place of zeros holds 0, those past the end too
pub zeros : (n a : ℕ) → ◌≡◌ {A = ℕ} (get_or (replicate n 0) a 0) 0
zeros zero a = refl
zeros (suc n) zero = refl
zeros (suc n) (suc a) = zeros n a

pub filled_none : (W : Interpretation) (concept : ℕ → Concept) → Filled W concept 0 (replicate 64 0)
filled_none W concept = record {
  long = refl;
  inside = λ a. omega (arith, zeros 64 a, pow_pos W.size);
  known = λ k l. absurd (omega arith);
}
