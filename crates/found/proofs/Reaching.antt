-- Chains with one more inner place, as rows of words.
use Rattle.std.proofs.Common.{◌≡◌, ℕ, suc, ◌+◌, ◌<◌, ◌≤◌, Bool, true, false, ◌&&◌, ◌||◌, List, get_or, sym, refl, ap, ◌∙◌, add-one}
use Rattle.std.proofs.lemmas.Bool.{cond-true, cond-false}
use Rattle.words.specs.Sets.{has, set_of}
use Rattle.meaning.specs.Chains.{reach}
use Rattle.sheet.proofs.Sets.{has_set, set_same}
use Rattle.found.specs.Rows.{RowsOf, by_way_of}
use Rattle.found.proofs.Unions.{set_or}

-- nothing is joined where the test fails
or_none : (a b c : Bool) → b ≡ false → a ≡ (a || (b && c))
or_none true true c e = refl
or_none true false c e = refl
or_none false true c e = sym (ap (λ b. b && c) e)
or_none false false c e = refl

-- a row by way of k, where that is in it and where it is not
row_more : (m k x : ℕ) (R : ℕ → ℕ → Bool) → m ≤ 64 → k < m → (b : Bool) → reach k R x k ≡ b
    → by_way_of k (set_of m (reach k R k)) (set_of m (reach k R x)) ≡ set_of m (reach (suc k) R x)
unfolding reach
row_more m k x R few l true e =
    cond-true (has (set_of m (reach k R x)) k) _ _ (has_set m k (reach k R x) l ∙ e)
    ∙ set_or m (reach k R x) (reach k R k) (reach (suc k) R x) few (λ y. ap (λ b. reach k R x y || (b && reach k R k y)) (sym e))
row_more m k x R few l false e =
    cond-false (has (set_of m (reach k R x)) k) _ _ (has_set m k (reach k R x) l ∙ e)
    ∙ set_same m (reach k R x) (reach (suc k) R x) (λ y _. or_none (reach k R x y) (reach k R x k) (reach k R k y) e)

-- without inner places a chain is a step
pub pass_none : (m : ℕ) (R : ℕ → ℕ → Bool) (rows : List ℕ) → RowsOf m R rows → RowsOf m (reach 0 R) rows
unfolding reach
pass_none m R rows before x h = before x h ∙ set_same m (R x) (reach 0 R x) (λ y _. refl)

-- a pass by way of k adds k to the inner places
pub pass_more : (m k : ℕ) (R : ℕ → ℕ → Bool) (was is : List ℕ) → m ≤ 64 → k < m
    → ((x : ℕ) → x < m → get_or is x 0 ≡ by_way_of k (get_or was k 0) (get_or was x 0)) → RowsOf m (reach k R) was → RowsOf m (reach (k + 1) R) is
pass_more m k R was is few l passed before x h =
    passed x h ∙ ap (λ w. by_way_of k w (get_or was x 0)) (before k l) ∙ ap (by_way_of k (set_of m (reach k R k))) (before x h)
    ∙ row_more m k x R few l (reach k R x k) refl ∙ ap (λ n. set_of m (reach n R x)) (sym (add-one k))
