-- The concept entries of a book mean the same in two worlds that differ only in roles that are not of the book.
use Rattle.std.proofs.Common.{◌≡◌, ℕ, zero, suc, ◌<◌, Bool, not, ◌&&◌, ◌||◌, refl, ap, ◌∙◌, arith}
use Rattle.meaning.specs.Worlds.{Interpretation, denotes, deep, holds}
use Rattle.meaning.specs.Books.{Book}
use Rattle.meaning.specs.Orders.{RoleBox}
use Rattle.meaning.specs.declared.Concept.{Concept}
use Rattle.meaning.specs.declared.Concept.TheVariants.{Nothing, Everything, Name, Not, And, Or, Restriction}
use Rattle.meaning.specs.declared.Quantifier.{Quantifier}
use Rattle.meaning.specs.declared.Quantifier.TheVariants.{Exists, Forall, NoneOf}
use Rattle.meaning.proofs.Meanings.{any_same, all_same, denotes_same}
use Rattle.tableau.specs.Promises.{Opens}

-- the world with other pairs
abbrev pub with_joins : Interpretation → (ℕ → ℕ → ℕ → Bool) → Interpretation
with_joins W j = record { size = W.size; bears = W.bears; joins = j }

module _ (H : RoleBox) (K : Book) (P : Opens H K) (W : Interpretation) (j : ℕ → ℕ → ℕ → Bool) (same : (r x y : ℕ) → r < H.count → j r x y ≡ W.joins r x y) where
  -- a restriction by a role of the book
  restriction_agrees : (q : Quantifier) (r a : ℕ) → r < H.count → (g : ℕ → ℕ → Bool) (x : ℕ)
      → denotes (with_joins W j) (Restriction q r a) g x ≡ denotes W (Restriction q r a) g x
  restriction_agrees Exists r a l g x = any_same W.size _ _ (λ y m. ap (λ b. b && g a y) (same r x y l))
  restriction_agrees Forall r a l g x = all_same W.size _ _ (λ y m. ap (λ b. not b || g a y) (same r x y l))
  restriction_agrees NoneOf r a l g x = all_same W.size _ _ (λ y m. ap (λ b. not b || not (g a y)) (same r x y l))

  -- any concept by such roles
  denotes_agrees : (c : Concept) → ((q : Quantifier) (r a : ℕ) → c ≡ Restriction q r a → r < H.count) → (g : ℕ → ℕ → Bool) (x : ℕ)
      → denotes (with_joins W j) c g x ≡ denotes W c g x
  denotes_agrees Nothing l g x = refl
  denotes_agrees Everything l g x = refl
  denotes_agrees (Name n) l g x = refl
  denotes_agrees (Not a) l g x = refl
  denotes_agrees (And a b) l g x = refl
  denotes_agrees (Or a b) l g x = refl
  denotes_agrees (Restriction q r a) l g x = restriction_agrees q r a (l q r a refl) g x

  -- and the book has no others
  role_in : (i : ℕ) → i < K.entries → (q : Quantifier) (r a : ℕ) → K.concept i ≡ Restriction q r a → r < H.count
  role_in i l q r a e = omega (arith, P.sound.roles_in i r a q l e, P.roles)

  -- so it is at every depth
  deep_agrees : (k i x : ℕ) → i < K.entries → deep (with_joins W j) K.concept k i x ≡ deep W K.concept k i x
  unfolding deep
  deep_agrees zero i x l = refl
  deep_agrees (suc k) i x l =
      denotes_agrees (K.concept i) (role_in i l) (deep (with_joins W j) K.concept k) x
      ∙ denotes_same W i (K.concept i) (P.sound.lower i) (deep (with_joins W j) K.concept k) (deep W K.concept k)
      (λ a y m. deep_agrees k a y (omega arith)) x

  pub holds_agree : (i x : ℕ) → i < K.entries → holds (with_joins W j) K.concept i x ≡ holds W K.concept i x
  unfolding holds
  holds_agree i x l = deep_agrees (suc i) i x l
