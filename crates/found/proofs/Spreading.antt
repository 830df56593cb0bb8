-- The table of what the roles join, role by role.
use Rattle.std.proofs.Common.{◌≡◌, ℕ, ◌+◌, ◌*◌, ◌<◌, ◌≤◌, Bool, true, false, ◌&&◌, eqb, List, ◌++◌, length, take, get_or, replicate, sym, refl, ap, ◌∙◌, subst, arith}
use lib.Bits.{bit_or}
use Rattle.std.proofs.lemmas.List.{length-take, get_or-take, get_or_append_left}
use Rattle.words.specs.Sets.{has, set_of}
use Rattle.meaning.specs.Chains.{reach}
use Rattle.plan.specs.declared.Plan.{Plan}
use Rattle.plan.specs.Meanings.{box_in}
use Rattle.search.specs.declared.Node.{Node}
use Rattle.search.specs.Nodes.{labels}
use Rattle.sheet.proofs.Extending.{zeros}
use Rattle.sheet.proofs.Sets.{set_same}
use Rattle.found.specs.Founds.{edge_in, added_in, joined_to}
use Rattle.found.specs.Rows.{RowsOf, chains_of, share_of}
use Rattle.found.proofs.Unions.{empty_set, share_is, any_none, any_more}

-- a role that is not transitive has no chains
pub chains_none : (m n : ℕ) (b : Bool) (R : ℕ → ℕ → Bool) → m ≤ 64 → b ≡ false → RowsOf m (chains_of b m R) (replicate n 0)
chains_none m n b R few e x h =
    zeros n x ∙ empty_set m (chains_of b m R x) few (λ y _. ap (λ b. b && reach m R x y) e)

-- a transitive one has them all
pub chains_all : (m : ℕ) (b : Bool) (R : ℕ → ℕ → Bool) (rows : List ℕ) → b ≡ true → RowsOf m (reach m R) rows → RowsOf m (chains_of b m R) rows
chains_all m b R rows e whole x h = whole x h ∙ set_same m (reach m R x) (chains_of b m R x) (λ y _. ap (λ b. b && reach m R x y) (sym e))

-- where the first m rows are closed, the rest is left out of account
pub front_closed : (m : ℕ) (R : ℕ → ℕ → Bool) (was closed rest : List ℕ) → m ≤ length was → length closed ≡ m
    → (RowsOf (length (take m was)) R (take m was) → RowsOf (length (take m was)) (reach (length (take m was)) R) closed)
    → RowsOf m R was → RowsOf m (reach m R) (closed ++ rest)
front_closed m R was closed rest few same closes before x h =
    let n : length (take m was) ≡ m = length-take m was ∙ omega arith in
    get_or_append_left closed rest 0 x (omega arith)
    ∙ subst (λ k. RowsOf k R (take m was) → RowsOf k (reach k R) closed) n closes (λ y l. get_or-take m was y 0 l ∙ before y l) x h

-- a row with its share joined to it has what the role adds
pub added_is : (p : Plan) (nodes : List Node) (q t x was is : ℕ) (own far : List ℕ) → length nodes ≤ 64 → x < length nodes → RowsOf (length nodes) (edge_in p (labels nodes) q) own
    → RowsOf (length nodes) (chains_of ((box_in p).transitive q) (length nodes) (edge_in p (labels nodes) q)) far
    → is ≡ bit_or was (share_of (eqb t q) (has (get_or p.rows q 0) t) (get_or own x 0) (get_or far x 0)) → is ≡ bit_or was (set_of (length nodes) (added_in p nodes q t x))
added_is p nodes q t x was is own far few h near long e =
    let m = length nodes in
    let R = edge_in p (labels nodes) q in
    let a = eqb t q in
    let b = has (get_or p.rows q 0) t in
    e ∙ ap (λ w. bit_or was (share_of a b w (get_or far x 0))) (near x h) ∙ ap (λ w. bit_or was (share_of a b (set_of m (R x)) w)) (long x h)
    ∙ ap (bit_or was) (share_is m a b (R x) (chains_of ((box_in p).transitive q) m R x) few)

-- the table by the roles below n
abbrev pub TableTo : Plan → List Node → ℕ → List ℕ → Type 0
TableTo p nodes n table = (t x : ℕ) → t < 64 → x < length nodes → get_or table (64 * t + x) 0 ≡ set_of (length nodes) (joined_to p nodes n t x)

-- no role, then one more
pub table_none : (p : Plan) (nodes : List Node) (n : ℕ) → length nodes ≤ 64 → TableTo p nodes 0 (replicate n 0)
table_none p nodes n few t x l h = zeros n (64 * t + x) ∙ any_none (length nodes) (λ q. added_in p nodes q t x) few

pub table_more : (p : Plan) (nodes : List Node) (q : ℕ) (was is : List ℕ) → length nodes ≤ 64
    → ((t x : ℕ) → t < 64 → x < length nodes → get_or is (64 * t + x) 0 ≡ bit_or (get_or was (64 * t + x) 0) (set_of (length nodes) (added_in p nodes q t x)))
    → TableTo p nodes q was → TableTo p nodes (q + 1) is
table_more p nodes q was is few added before t x l h =
    added t x l h ∙ any_more (length nodes) (λ q. added_in p nodes q t x) few q (get_or was (64 * t + x) 0) (set_of (length nodes) (added_in p nodes q t x)) (before t x l h) refl
