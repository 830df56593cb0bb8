-- The first node whose label contains a seed.
use Rattle.std.proofs.Common.{◌≡◌, ℕ, suc, ◌+◌, Bool, true, false, cond, not, ltb, List, [], ◌∷◌, length, Some, None, Option, refl, sym, ap, ◌∙◌, inl, inr, arith}
use Rattle.std.specs.Option.{is_some}
use Rattle.std.specs.List.{position_or_len}
use Rattle.std.proofs.lemmas.Bool.{ltb-true, lt-ltb, le-ltb, cases_lt}
use Rattle.std.proofs.lemmas.List.{length-map}
use Rattle.std.proofs.lemmas.List.Recursion.{is_position_or_len}
use Rattle.tableau.specs.declared.Label.{Label}
use Rattle.tableau.specs.Labels.{contains, any_contains, lowest}
use Rattle.search.specs.declared.Node.{Node}
use Rattle.search.specs.Nodes.{labels, LowestIn}

module _ (seed : Label) where
  abbrev pub holds : Node → Bool
  holds x = contains x.label seed

  place : (xs : List Node) → lowest (labels xs) seed ≡ position_or_len holds xs
  unfolding lowest
  place xs = is_position_or_len (λ ys. lowest (labels ys) seed) holds refl (λ x ys. ap (cond (holds x) 0) (omega arith)) xs

  both_more : (k n : ℕ) → ltb k n ≡ ltb (1 + k) (suc n)
  both_more k n =
      elim (cases_lt k n) [
        | inl h ↦ lt-ltb k n h ∙ sym (lt-ltb (1 + k) (suc n) (omega arith))
        | inr h ↦ le-ltb k n h ∙ sym (le-ltb (1 + k) (suc n) (omega arith))
      ]

  one_more : (b c : Bool) (k n : ℕ) → c ≡ ltb k n → cond b true c ≡ ltb (cond (not b) (1 + k) 0) (suc n)
  one_more true c k n e = sym (lt-ltb 0 (suc n) (omega arith))
  one_more false c k n e = e ∙ both_more k n

  some : (xs : List Node) → any_contains (labels xs) seed ≡ ltb (position_or_len holds xs) (length xs)
  unfolding any_contains
  some [] = refl
  some (x ∷ xs) = one_more (holds x) (any_contains (labels xs) seed) (position_or_len holds xs) (length xs) (some xs)

  picked : (ls : List Label) (k : ℕ) (b : Bool) → lowest ls seed ≡ k → any_contains ls seed ≡ b → b ≡ ltb k (length ls) → LowestIn ls seed (cond b (Some k) None)
  picked ls k true e a l = (a, sym e, ltb-true k (length ls) (sym l))
  picked ls k false e a l = a

  pub first_holder : (xs : List Node) → LowestIn (labels xs) seed (cond (ltb (position_or_len holds xs) (length xs)) (Some (position_or_len holds xs)) None)
  first_holder xs =
      let k = position_or_len holds xs in
      picked (labels xs) k (ltb k (length xs)) (place xs) (some xs) (rw length-map refl)

-- does a label contain it
pub any_held : (ls : List Label) (seed : Label) (r : Option ℕ) → LowestIn ls seed r → any_contains ls seed ≡ is_some r
any_held ls seed None h = h
any_held ls seed (Some k) h = h.0
