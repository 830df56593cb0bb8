-- Where the obligations of a node lead, as sets.
use Rattle.std.proofs.Common.{◌≡◌, ℕ, suc, ◌+◌, ◌^◌, ◌<◌, ◌≤◌, Bool, true, false, ◌&&◌, eqb, ltb, List, [], ◌∷◌, length, get_or, sym, refl, ap, ◌∙◌, ⊎_elim, arith, None, Some}
use lib.Bits.{bit_or}
use Rattle.std.proofs.lemmas.List.{length-map, get_or-map}
use Rattle.std.proofs.lemmas.Bool.{cases_Bool, both_ways, cond-true, cond-false, ne_eqb}
use Rattle.std.proofs.lemmas.Bool.Decides.{nat_tests}
use Rattle.words.specs.Sets.{has, set_of}
use Rattle.words.proofs.Words.{set_is}
use Rattle.meaning.specs.Bounded.{any}
use Rattle.tableau.specs.declared.Label.{Label}
use Rattle.tableau.specs.declared.Demand.{Demand}
use Rattle.tableau.specs.Labels.{empty, contains, any_contains, lowest}
use Rattle.tableau.specs.Seeds.{obliged_at, seed_of}
use Rattle.tableau.specs.Found.{leads, edge}
use Rattle.plan.specs.declared.Plan.{Plan}
use Rattle.plan.specs.Meanings.{table_in, box_in}
use Rattle.search.specs.declared.Node.{Node}
use Rattle.search.specs.Nodes.{blank, label_of, labels}
use Rattle.sheet.proofs.Sets.{set_same}
use Rattle.found.specs.Founds.{is_lowest, leads_in, targets_in, edge_in}
use Rattle.found.proofs.Unions.{empty_set, any_none, any_more}

-- the set of k alone
lone : (m k w : ℕ) (p : ℕ → Bool) → m ≤ 64 → k < m → w < 2 ^ 64 → ((j : ℕ) → has w j ≡ eqb j k) → ((j : ℕ) → p j ≡ eqb k j) → w ≡ set_of m p
lone m k w p few l fits is same =
    set_is m w p few fits (λ j. is j ∙ at j ∙ ap (λ b. ltb j m && b) (sym (same j)))
  where
    at : (j : ℕ) → eqb j k ≡ (ltb j m && eqb k j)
    at j = grind (arith, nat_tests)

-- where no label contains the seed, the lowest that does is past the end
lowest_none : (ls : List Label) (seed : Label) → any_contains ls seed ≡ false → lowest ls seed ≡ length ls
unfolding any_contains lowest
lowest_none [] seed e = refl
lowest_none (l ∷ ls) seed e = ⊎_elim
    (λ y. absurd (both_ways _ e (cond-true (contains l seed) true (any_contains ls seed) y)))
    (λ n. cond-false (contains l seed) 0 (suc (lowest ls seed)) n ∙ ap suc (lowest_none ls seed (sym (cond-false (contains l seed) true (any_contains ls seed) n) ∙ e)))
    (cases_Bool (contains l seed))

module _ (nodes : List Node) (seed : Label) (few : length nodes ≤ 64) where
  -- the set of the lowest node, where there is one, is its number alone
  pub holder_some : (y w : ℕ) → y ≡ lowest (labels nodes) seed → y < length (labels nodes) → w < 2 ^ 64 → ((j : ℕ) → has w j ≡ eqb j y)
      → w ≡ set_of (length nodes) (is_lowest (labels nodes) seed)
  holder_some y w e l fits is =
      lone (length nodes) y w (is_lowest (labels nodes) seed) few (omega (arith, length-map nodes label_of)) fits is (λ j. ap (λ k. eqb k j) (sym e))

  -- where there is none, the lowest is past the end, so that the set is empty
  pub holder_none : any_contains (labels nodes) seed ≡ false → 0 ≡ set_of (length nodes) (is_lowest (labels nodes) seed)
  holder_none e =
      empty_set (length nodes) (is_lowest (labels nodes) seed) few
      (λ j l. ne_eqb (lowest (labels nodes) seed) j (λ same. omega (arith, lowest_none (labels nodes) seed e, length-map nodes label_of)))

module _ (p : Plan) (ls : List Label) (l : Label) (m i t : ℕ) (few : m ≤ 64) where
  -- an entry with no obligation leads nowhere
  pub led_idle : obliged_at (table_in p) l i ≡ None → 0 ≡ set_of m (leads_in p ls l i t)
  unfolding leads
  led_idle e = empty_set m (leads_in p ls l i t) few (λ y _. ap (λ o. leads (box_in p) (table_in p) ls l o t y) e)

  module _ (d : Demand) (e : obliged_at (table_in p) l i ≡ Some d) where
    -- nor does one whose role is not below t
    pub led_other : (box_in p).below d.role t ≡ false → 0 ≡ set_of m (leads_in p ls l i t)
    unfolding leads
    led_other n =
        empty_set m (leads_in p ls l i t) few
        (λ y _. ap (λ o. leads (box_in p) (table_in p) ls l o t y) e ∙ ap (λ b. b && eqb (lowest ls (seed_of (box_in p) (table_in p) l d.role d.sign d.part)) y) n)

    -- else it leads to the lowest node that contains the seed
    pub led_there : (seed : Label) (w : ℕ) → (box_in p).below d.role t ≡ true → seed ≡ seed_of (box_in p) (table_in p) l d.role d.sign d.part → w ≡ set_of m (is_lowest ls seed)
        → w ≡ set_of m (leads_in p ls l i t)
    unfolding leads
    led_there seed w b f is =
        is ∙ set_same m (is_lowest ls seed) (leads_in p ls l i t)
        (λ y _. ap (λ k. eqb (lowest ls k) y) f ∙ sym (ap (λ o. leads (box_in p) (table_in p) ls l o t y) e ∙ ap (λ c. c && eqb (lowest ls (seed_of (box_in p) (table_in p) l d.role d.sign d.part)) y) b))

-- where the entries below n lead
abbrev pub led_to : Plan → List Label → Label → ℕ → ℕ → ℕ → Bool
led_to p ls l n t y = any n (λ i. leads_in p ls l i t y)

-- no entry, then one more
pub led_none : (p : Plan) (ls : List Label) (l : Label) (m t : ℕ) → m ≤ 64 → 0 ≡ set_of m (led_to p ls l 0 t)
led_none p ls l m t few = any_none m (λ i. leads_in p ls l i t) few

pub led_more : (p : Plan) (ls : List Label) (l : Label) (m t : ℕ) → m ≤ 64 → (i was more is : ℕ) → was ≡ set_of m (led_to p ls l i t) → more ≡ set_of m (leads_in p ls l i t)
    → is ≡ bit_or was more → is ≡ set_of m (led_to p ls l (i + 1) t)
led_more p ls l m t few i was more is e f g = g ∙ any_more m (λ i. leads_in p ls l i t) few i was more e f

-- the edges of an individual are those of its label
pub targets_of : (p : Plan) (nodes : List Node) (t x w : ℕ) → x < length nodes → w ≡ set_of (length nodes) (targets_in p (labels nodes) (get_or nodes x blank).label t)
    → w ≡ set_of (length nodes) (edge_in p (labels nodes) t x)
unfolding edge
targets_of p nodes t x w h whole =
    whole ∙ set_same (length nodes) (targets_in p (labels nodes) (get_or nodes x blank).label t) (edge_in p (labels nodes) t x)
    (λ y _. ap (λ l. targets_in p (labels nodes) l t y) (sym (get_or-map label_of nodes x blank empty h)))
