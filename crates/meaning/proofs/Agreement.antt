-- Worlds that agree on what a book can speak of are alike to it.
use Rattle.std.proofs.Common.{◌≡◌, ℕ, zero, suc, ◌<◌, Bool, not, ◌&&◌, ◌||◌, sym, refl, ap, ◌∙◌, arith}
use Rattle.meaning.specs.Bounded.{any, all}
use Rattle.meaning.specs.Worlds.{Interpretation, Concept, denotes, deep, holds, Lower}
use Rattle.meaning.specs.Orders.{RoleBox}
use Rattle.meaning.specs.Books.{Book, Sound, Keeps}
use Rattle.meaning.specs.Agreement.{Agree, Confined, AgreeingWorlds}
use Rattle.meaning.specs.declared.Concept.TheVariants.{Nothing, Everything, Name, Not, And, Or, Restriction}
use Rattle.meaning.specs.declared.Quantifier.{Quantifier}
use Rattle.meaning.specs.declared.Quantifier.TheVariants.{Exists, Forall, NoneOf}
use Rattle.meaning.proofs.Meanings.{any_same, all_same}

module _ (n : ℕ) (W V : Interpretation) (A : Agree n W V) where
  -- a restriction, where its parts have the same members
  restriction_alike : (q : Quantifier) (r a : ℕ) (g h : ℕ → ℕ → Bool) (x : ℕ) → r < n → x < W.size → ((y : ℕ) → y < W.size → g a y ≡ h a y)
      → denotes W (Restriction q r a) g x ≡ denotes V (Restriction q r a) h x
  restriction_alike Exists r a g h x l m e =
      any_same W.size _ _ (λ y b. ap (λ v. v && g a y) (A.joins r x y l m b) ∙ ap (λ v. V.joins r x y && v) (e y b))
      ∙ ap (λ s. any s (λ y. V.joins r x y && h a y)) A.size
  restriction_alike Forall r a g h x l m e =
      all_same W.size _ _ (λ y b. ap (λ v. not v || g a y) (A.joins r x y l m b) ∙ ap (λ v. not (V.joins r x y) || v) (e y b))
      ∙ ap (λ s. all s (λ y. not (V.joins r x y) || h a y)) A.size
  restriction_alike NoneOf r a g h x l m e =
      all_same W.size _ _ (λ y b. ap (λ v. not v || not (g a y)) (A.joins r x y l m b) ∙ ap (λ v. not (V.joins r x y) || not v) (e y b))
      ∙ ap (λ s. all s (λ y. not (V.joins r x y) || not (h a y))) A.size

  -- a concept whose names and roles are those that the worlds agree on, and whose parts have the same members
  concept_alike : (i : ℕ) (c : Concept) → Lower i c → ((k : ℕ) → c ≡ Name k → k < 64) → ((q : Quantifier) (r a : ℕ) → c ≡ Restriction q r a → r < n)
      → (g h : ℕ → ℕ → Bool) → ((a y : ℕ) → a < i → y < W.size → g a y ≡ h a y) → (x : ℕ) → x < W.size → denotes W c g x ≡ denotes V c h x
  concept_alike i Nothing l names roles g h e x m = refl
  concept_alike i Everything l names roles g h e x m = refl
  concept_alike i (Name k) l names roles g h e x m = A.bears x k m (names k refl)
  concept_alike i (Not a) l names roles g h e x m = ap not (e a x l m)
  concept_alike i (And a b) l names roles g h e x m = ap (λ v. v && g b x) (e a x l.0 m) ∙ ap (λ v. h a x && v) (e b x l.1 m)
  concept_alike i (Or a b) l names roles g h e x m = ap (λ v. v || g b x) (e a x l.0 m) ∙ ap (λ v. h a x || v) (e b x l.1 m)
  concept_alike i (Restriction q r a) l names roles g h e x m = restriction_alike q r a g h x (roles q r a refl) m (λ y b. e a y l b)

module _ (K : Book) (S : Sound K) (W V : Interpretation) (A : Agree K.roles W V) where
  deep_alike : (d i x : ℕ) → i < K.entries → x < W.size → deep W K.concept d i x ≡ deep V K.concept d i x
  unfolding deep
  deep_alike zero i x l m = refl
  deep_alike (suc d) i x l m =
      concept_alike K.roles W V A i (K.concept i) (S.lower i) (λ k e. S.names_in i k l e) (λ q r a e. S.roles_in i r a q l e)
      (deep W K.concept d) (deep V K.concept d) (λ a y b c. deep_alike d a y (omega arith) c) x m

  holds_alike : (i x : ℕ) → i < K.entries → x < W.size → holds W K.concept i x ≡ holds V K.concept i x
  unfolding holds
  holds_alike i x l m = deep_alike (suc i) i x l m

  back : (x : ℕ) → x < V.size → x < W.size
  back x l = omega (arith, A.size)

  keeps_alike : (H : RoleBox) → Confined H → H.count ≡ K.roles → Keeps H K W → Keeps H K V
  keeps_alike H C roles keeps = record {
    inhabited = omega (arith, keeps.inhabited, A.size);
    inclusions = λ r s e x y l m j.
        let b = C.below_in r s e in
        sym (A.joins s x y (omega (arith, b.1)) (back x l) (back y m))
        ∙ keeps.inclusions r s e x y (back x l) (back y m) (A.joins r x y (omega (arith, b.0)) (back x l) (back y m) ∙ j);
    transitivity = λ r e x y z l m o j k.
        let b : r < K.roles = omega (arith, C.transitive_in r e) in
        sym (A.joins r x z b (back x l) (back z o))
        ∙ keeps.transitivity r e x y z (back x l) (back y m) (back z o) (A.joins r x y b (back x l) (back y m) ∙ j) (A.joins r y z b (back y m) (back z o) ∙ k);
    rules = λ k l x m h.
        sym (holds_alike (K.rule k).conclusion x (S.conclusions_in k l) (back x m))
        ∙ keeps.rules k l x (back x m) (holds_alike (K.rule k).premise x (S.premises_in k l) (back x m) ∙ h);
  }

pub agreeing_worlds : AgreeingWorlds
agreeing_worlds K S W V A = record { members = holds_alike K S W V A; keeping = keeps_alike K S W V A }
