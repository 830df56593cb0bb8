-- Where an entry belongs among the classes.
use Rattle.std.proofs.Common.{◌≡◌, ℕ, suc, ◌+◌, ◌<◌, ◌≤◌, List, length, get_or, drop, None, Ok, sym, ap, ◌∙◌, add-one}
use Rattle.std.proofs.lemmas.List.{drop_all, drop_more}
use Rattle.runs.specs.Setups.{Setup}
use Rattle.runs.specs.Steps.{compared, placed_by, placed}

-- the classes stand by the entries cs
module _ (S : Setup) (e n : ℕ) (cs : List ℕ) where
  -- what is left of the classes from k on decides
  abbrev pub FromClass : ℕ → Type 0
  FromClass k = placed S e n cs 1 ≡ placed S e n (drop k cs) (suc k)

  -- the class at k is compared
  pub at_class : (k : ℕ) → k < length cs → FromClass k
      → placed S e n cs 1 ≡ placed_by (compared S e (get_or cs k 0) n) (k + 1) (λ u. placed S e n (drop (k + 1) cs) (suc (k + 1)))
  unfolding placed
  at_class k l h =
      h
      ∙ ap (λ ds. placed S e n ds (suc k)) (drop_more cs k 0 l)
      ∙ ap (λ j. placed_by (compared S e (get_or cs k 0) n) j (λ u. placed S e n (drop (k + 1) cs) (suc j))) (sym (add-one k))

  -- no class is left
  pub past_classes : (k : ℕ) → length cs ≤ k → FromClass k → placed S e n cs 1 ≡ Ok None
  unfolding placed
  past_classes k l h = h ∙ ap (λ ds. placed S e n ds (suc k)) (drop_all k cs l)
