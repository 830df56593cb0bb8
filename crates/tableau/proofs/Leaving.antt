-- What the search leaves standing: each level adds labels to those that stood, all saturated, with every obligation met.
use Rattle.std.proofs.Common.{◌≡◌, ℕ, zero, suc, ◌+◌, ◌<◌, ◌≤◌, Bool, true, false, List, [], ◌∷◌, ◌++◌, length, get_or, sym, refl, ap, ◌∙◌, subst, inl, inr, ⊎_elim, arith, Option, None, Some}
use Rattle.std.specs.List.{AllByRecursion as All}
use Rattle.std.proofs.ByRecursion.{All-append, All-weaker, All-get_or}
use Rattle.std.proofs.lemmas.List.{append-nil, append_assoc, length-append, get_or_at}
use Rattle.std.proofs.lemmas.Bool.{cases_eq}
use Rattle.meaning.specs.Orders.{RoleBox}
use Rattle.tableau.specs.declared.Label.{Label}
use Rattle.tableau.specs.declared.Demand.{Demand}
use Rattle.tableau.specs.Labels.{empty, contains, any_contains}
use Rattle.tableau.specs.Entries.{Table, LowerEntry}
use Rattle.tableau.specs.Expansions.{expansions}
use Rattle.tableau.specs.Seeds.{obliged_at, seed_of, wants}
use Rattle.tableau.specs.Search.{stands, Searcher, reuse, pursue, meet_from, try_each, enter, explore}
use Rattle.tableau.specs.Saturation.{Holds, In}
use Rattle.tableau.proofs.Tests.{never}
use Rattle.tableau.proofs.Labelling.{contains_from, any_grows, any_at}
use Rattle.tableau.proofs.Outcomes.{then_cases, else_cases}
use Rattle.tableau.proofs.Standing.{Saturated, Stands}
use Rattle.tableau.proofs.Growing.{Expansion, expansions_right}

-- the label is saturated, has P, and the seed of each of its obligations is contained in a label of the list
pub record Fine (H : RoleBox) (B : Table) (P : Label → Type 0) (ls : List Label) (l : Label) : Type 0 where
  pub filled : Saturated B l
  pub own : P l
  pub met : (i r a : ℕ) (s : Bool) → i < B.width → obliged_at B l i ≡ wants r s a → any_contains ls (seed_of H B l r s a) ≡ true

-- the seed of the label's obligation, if it is one, is contained in a label of the list
abbrev Meets : RoleBox → Table → Label → List Label → Option Demand → Type 0
Meets H B l ls None = Unit {0}
Meets H B l ls (Some d) = any_contains ls (seed_of H B l d.role d.sign d.part) ≡ true

-- the labels ls are st and more, and the further ones are fine
record Added (H : RoleBox) (B : Table) (P : Label → Type 0) (st ls : List Label) : Type 0 where
  more : List Label
  are : ls ≡ st ++ more
  fine : All (Fine H B P ls) more

-- and the first of the further ones holds the seed
pub record Rooted (H : RoleBox) (B : Table) (P : Label → Type 0) (st : List Label) (seed : Label) (ls : List Label) : Type 0 where
  pub top : Label
  pub rest : List Label
  pub are : ls ≡ st ++ top ∷ rest
  pub fine : All (Fine H B P ls) (top ∷ rest)
  pub root : Holds top seed

-- what a search that stands leaves
pub record Left (H : RoleBox) (B : Table) (P : Label → Type 0) (seed : Label) (ls : List Label) : Type 0 where
  pub standing : Stands H B ls
  pub some : 0 < length ls
  pub root : Holds (get_or ls 0 empty) seed
  pub each : (x : ℕ) → x < length ls → P (get_or ls x empty)

-- what stands is one list
pub same_labels : (ms ls : List Label) → stands ms ≡ stands ls → ms ≡ ls
same_labels ms ls e = cc

module _ (H : RoleBox) (B : Table) (P : Label → Type 0) where
  -- what is contained in a label of the list still is when more was added
  any_added : (st ls : List Label) → Added H B P st ls → (seed : Label) → any_contains st seed ≡ true → any_contains ls seed ≡ true
  any_added st ls a seed e = subst (λ zs. any_contains zs seed ≡ true) (sym a.are) (any_grows st a.more seed e)

  -- and what was fine is fine
  fine_added : (st ls : List Label) → Added H B P st ls → (l : Label) → Fine H B P st l → Fine H B P ls l
  fine_added st ls a l f = record {
    filled = f.filled;
    own = f.own;
    met = λ i r q s low e. any_added st ls a (seed_of H B l r s q) (f.met i r q s low e);
  }

  -- adding nothing, the same, and some after others
  added_none : (st : List Label) → Added H B P st st
  added_none st = record { more = []; are = sym (append-nil st); fine = tt }

  added_same : (st ls : List Label) → st ≡ ls → Added H B P st ls
  added_same st ls e = subst (Added H B P st) e (added_none st)

  added_on : (st ms ls : List Label) → Added H B P st ms → Added H B P ms ls → Added H B P st ls
  added_on st ms ls a b = record {
    more = a.more ++ b.more;
    are = b.are ∙ ap (λ zs. zs ++ b.more) a.are ∙ append_assoc st a.more b.more;
    fine = All-append (Fine H B P ls) a.more b.more (All-weaker (Fine H B P ms) (Fine H B P ls) (fine_added ms ls b) a.more a.fine) b.fine;
  }

  -- a node that was found is added
  rooted_added : (st : List Label) (seed : Label) (ls : List Label) → Rooted H B P st seed ls → Added H B P st ls
  rooted_added st seed ls r = record { more = r.top ∷ r.rest; are = r.are; fine = r.fine }

  -- the seed is contained in the label that was found for it
  any_rooted : (st : List Label) (seed : Label) (ls : List Label) → Rooted H B P st seed ls → any_contains ls seed ≡ true
  any_rooted st seed ls r =
      let all = st ++ r.top ∷ r.rest in
      let long : length all ≡ length st + length (r.top ∷ r.rest) = length-append st (r.top ∷ r.rest) in
      let at-it : get_or all (length st) empty ≡ r.top = get_or_at st r.top r.rest empty (length st) refl in
      subst (λ zs. any_contains zs seed ≡ true) (sym r.are)
      (any_at all (length st) seed (omega arith) (subst (λ l. contains l seed ≡ true) (sym at-it) (contains_from r.top seed r.root)))

  -- the search for a further node leaves what it should
  abbrev pub Leaves : Searcher → Type 0
  Leaves sub = (st : List Label) (seed : Label) (ls : List Label) → P seed → sub st seed ≡ stands ls → Rooted H B P st seed ls

  module _ (low : (i : ℕ) → LowerEntry i (B.entry i)) (kept : (l m : Label) → Holds m l → P l → P m)
      (passed : (l : Label) (i r a : ℕ) (s : Bool) → i < B.width → obliged_at B l i ≡ wants r s a → P l → P (seed_of H B l r s a)) (sub : Searcher) (good : Leaves sub) where
    -- a reused label contains the seed, and so does a new one
    reuse_leaves : (b : Bool) (st : List Label) (seed : Label) → any_contains st seed ≡ b → P seed → (ls : List Label) → reuse b sub st seed ≡ stands ls
        → Added H B P st ls × (any_contains ls seed ≡ true)
    unfolding reuse
    reuse_leaves true st seed h p ls e = let a = added_same st ls (same_labels st ls e) in (a, any_added st ls a seed h)
    reuse_leaves false st seed h p ls e = let r = good st seed ls p e in (rooted_added st seed ls r, any_rooted st seed ls r)

    -- an obligation leaves its seed contained
    pursue_leaves : (l : Label) → P l → (i : ℕ) → i < B.width → (o : Option Demand) → obliged_at B l i ≡ o → (st ls : List Label) → pursue H B sub l o st ≡ stands ls → Added H B P st ls × Meets H B l ls o
    unfolding pursue
    pursue_leaves l p i m None w st ls e = (added_same st ls (same_labels st ls e), tt)
    pursue_leaves l p i m (Some d) w st ls e =
        let seed = seed_of H B l d.role d.sign d.part in
        reuse_leaves (any_contains st seed) st seed refl (passed l i d.role d.part d.sign m w p) ls e

    -- what was met stays met
    meets_added : (st ls : List Label) → Added H B P st ls → (l : Label) (o : Option Demand) → Meets H B l st o → Meets H B l ls o
    meets_added st ls a l None m = tt
    meets_added st ls a l (Some d) m = any_added st ls a (seed_of H B l d.role d.sign d.part) m

    -- and so do several, one after another
    meet_leaves : (l : Label) → P l → (d i : ℕ) → i + d ≤ B.width → (st ls : List Label) → meet_from H B sub l d i st ≡ stands ls
        → Added H B P st ls × ((j : ℕ) → i ≤ j → j < i + d → Meets H B l ls (obliged_at B l j))
    unfolding meet_from
    meet_leaves l p zero i m st ls = λ e. (added_same st ls (same_labels st ls e), λ j x y. absurd (omega arith))
    meet_leaves l p (suc d) i m st ls =
        then_cases (λ o. o ≡ stands ls → Added H B P st ls × ((j : ℕ) → i ≤ j → j < i + suc d → Meets H B l ls (obliged_at B l j)))
        (pursue H B sub l (obliged_at B l i) st) (meet_from H B sub l d (suc i)) (λ o e. never cc) (λ o e. never cc)
        (λ ms o e.
        let u = pursue_leaves l p i (omega arith) (obliged_at B l i) refl st ms o in
        let v = meet_leaves l p d (suc i) (omega arith) ms ls e in (
          added_on st ms ls u.0 v.0,
          λ j x y. ⊎_elim
              (λ (same : i ≡ j). subst (λ j. Meets H B l ls (obliged_at B l j)) same (meets_added ms ls v.0 l (obliged_at B l i) u.1))
              (λ other. v.1 j (omega arith) (omega arith))
              (cases_eq i j),
        ))

    -- the node's own label comes first, and then what its obligations led to
    node_leaves : (st : List Label) (seed l : Label) → P seed → Expansion B seed l
        → (ls : List Label) → meet_from H B sub l B.width 0 (st ++ l ∷ []) ≡ stands ls → Rooted H B P st seed ls
    node_leaves st seed l p x ls e =
        let q = kept seed l x.grew.holds p in
        let m = meet_leaves l q B.width 0 (omega arith) (st ++ l ∷ []) ls e in
        let own : Fine H B P ls l = record { filled = x.full; own = q; met = λ i r a s low w. subst (Meets H B l ls) w (m.1 i (omega arith) (omega arith)) } in
        record { top = l; rest = m.0.more; are = m.0.are ∙ append_assoc st (l ∷ []) m.0.more; fine = (own, m.0.fine); root = x.grew.holds }

    -- the first expansion that does not fail leaves its node
    try_leaves : (st : List Label) (seed : Label) → P seed → (es : List Label) → ((e : Label) → In e es → Expansion B seed e)
        → (ls : List Label) → try_each H B sub st es ≡ stands ls → Rooted H B P st seed ls
    unfolding try_each
    try_leaves st seed p [] right ls = λ e. never cc
    try_leaves st seed p (l ∷ es) right ls =
        else_cases (λ o. o ≡ stands ls → Rooted H B P st seed ls) (meet_from H B sub l B.width 0 (st ++ l ∷ [])) (λ u. try_each H B sub st es)
        (λ o later. try_leaves st seed p es (λ m h. right m (inr h)) ls later)
        (λ o e. never cc)
        (λ ms o e. node_leaves st seed l p (right l (inl refl)) ls (o ∙ e))

    -- and so does the search for a node
    enter_leaves : (b : Bool) (st : List Label) (seed : Label) (ls : List Label) → P seed → enter H B b sub st seed ≡ stands ls → Rooted H B P st seed ls
    unfolding enter
    enter_leaves true st seed ls p e = never cc
    enter_leaves false st seed ls p e = try_leaves st seed p (expansions B seed) (expansions_right B low seed) ls e

-- from no label, what is left is what was added
left : (H : RoleBox) (B : Table) (P : Label → Type 0) (seed : Label) (ls : List Label) → Rooted H B P [] seed ls → Left H B P seed ls
left H B P seed ls r = record {
  standing = record { full = λ x h. (fine_at x h).filled; met = λ x i q a s h. (fine_at x h).met i q a s };
  some = omega (arith, ap length r.are);
  root = subst (λ zs. Holds (get_or zs 0 empty) seed) (sym r.are) r.root;
  each = λ x h. (fine_at x h).own;
}
  where
    fine_at : (x : ℕ) → x < length ls → Fine H B P ls (get_or ls x empty)
    fine_at x h = All-get_or (Fine H B P ls) ls x empty h (subst (All (Fine H B P ls)) (sym r.are) r.fine)

-- at every depth
pub explore_leaves : (H : RoleBox) (B : Table) → ((i : ℕ) → LowerEntry i (B.entry i)) → (P : Label → Type 0)
    → ((l m : Label) → Holds m l → P l → P m)
    → ((l : Label) (i r a : ℕ) (s : Bool) → i < B.width → obliged_at B l i ≡ wants r s a → P l → P (seed_of H B l r s a))
    → (n k : ℕ) → Leaves H B P (explore H B n k)
unfolding explore
explore_leaves H B low P kept passed n zero st seed ls p e = never cc
explore_leaves H B low P kept passed n (suc k) st seed ls p e =
    enter_leaves H B P low kept passed (explore H B n k) (explore_leaves H B low P kept passed n k) _ st seed ls p e

-- P is a property that stays as labels grow and that passes to the seeds of successors
pub leaves : (H : RoleBox) (B : Table) → ((i : ℕ) → LowerEntry i (B.entry i)) → (P : Label → Type 0)
    → ((l m : Label) → Holds m l → P l → P m)
    → ((l : Label) (i r a : ℕ) (s : Bool) → i < B.width → obliged_at B l i ≡ wants r s a → P l → P (seed_of H B l r s a))
    → (n : ℕ) (seed : Label) (ls : List Label) → P seed → explore H B n n [] seed ≡ stands ls → Left H B P seed ls
leaves H B low P kept passed n seed ls p e =
    left H B P seed ls (explore_leaves H B low P kept passed n n [] seed ls p e)
