-- The world that the code keeps agrees with the found world.
use Rattle.std.proofs.Common.{◌≡◌, ℕ, zero, suc, ◌+◌, ◌-◌, ◌*◌, ◌<◌, ◌≤◌, Bool, true, false, not, ◌&&◌, ◌||◌, eqb, ltb, List, length, get_or, sym, refl, ap, ◌∙◌, ⊎_elim, arith}
use lib.Bits.{bit_and}
use Rattle.std.proofs.lemmas.List.{length-map, get_or-map}
use Rattle.std.proofs.lemmas.Bool.{cases_eq, lt-ltb}
use Rattle.std.proofs.lemmas.Bool.Decides.{nat_tests}
use Rattle.words.specs.Sets.{has}
use Rattle.words.proofs.Words.{has_and}
use Rattle.meaning.specs.Agreement.{Agree}
use Rattle.meaning.specs.Bounded.{any}
use Rattle.meaning.specs.Chains.{reach}
use Rattle.tableau.specs.Labels.{empty, in_label}
use Rattle.tableau.specs.Found.{joined, borne}
use Rattle.tableau.proofs.Sets.{some_member}
use Rattle.plan.specs.declared.Plan.{Plan}
use Rattle.plan.specs.Meanings.{table_in, box_in}
use Rattle.search.specs.declared.Node.{Node}
use Rattle.search.specs.Nodes.{blank, label_of, labels}
use Rattle.sheet.proofs.Sets.{has_set}
use Rattle.found.specs.Founds.{found_in, is_name_in, edge_in, joined_to, kept_world}
use Rattle.found.proofs.Naming.{NamedTo}
use Rattle.found.proofs.Spreading.{TableTo}

-- two sets meet, the second of them the numbers below n of which p holds
meet_is : (a b n : ℕ) (p : ℕ → Bool) → ((j : ℕ) → has b j ≡ (ltb j n && p j)) → not (eqb (bit_and a b) 0) ≡ any n (λ i. has a i && p i)
meet_is a b n p is = some_member (bit_and a b) n (λ i. has a i && p i) (λ j. has_and a b j ∙ ap (λ t. has a j && t) (is j) ∙ turned (has a j) (ltb j n) (p j))
  where
    turned : (x y z : Bool) → (x && (y && z)) ≡ (y && (x && z))
    turned true y z = refl
    turned false true z = refl
    turned false false z = refl

-- one number's own test taken out of the others
any_own : (n t : ℕ) (E f g : ℕ → Bool) → ((q : ℕ) → f q ≡ g q) → any n (λ q. eqb t q && E q || f q) ≡ (ltb t n && E t || any n g)
unfolding any
any_own zero t E f g same = grind (arith, nat_tests)
any_own (suc n) t E f g same =
    ap (λ b. (eqb t n && E n || b) || any n (λ q. eqb t q && E q || f q)) (same n)
    ∙ ap (λ b. (eqb t n && E n || g n) || b) (any_own n t E f g same)
    ∙ ⊎_elim
    (λ (own : n ≡ t). rw own (grind (arith, nat_tests)))
    (λ other. grind (arith, nat_tests))
    (cases_eq n t)

-- by the cases of the tests
turned : (a b c : Bool) → (b && (a && c)) ≡ (a && b && c)
turned true true c = refl
turned true false c = refl
turned false true c = refl
turned false false c = refl

module _ (p : Plan) (nodes : List Node) where
  -- what all roles of the plan give to a role is what it joins
  joined_is : (t x y : ℕ) → t < p.count → joined_to p nodes p.count t x y ≡ joined (box_in p) (table_in p) (labels nodes) t x y
  unfolding joined
  joined_is t x y l =
      let R = edge_in p (labels nodes) in
      any_own p.count t (λ q. R q x y) (λ q. (box_in p).below q t && ((box_in p).transitive q && reach (length nodes) (R q) x y))
      (λ q. (box_in p).transitive q && (box_in p).below q t && reach (length (labels nodes)) (R q) x y)
      (λ q. turned ((box_in p).transitive q) ((box_in p).below q t) (reach (length nodes) (R q) x y)
      ∙ ap (λ m. (box_in p).transitive q && (box_in p).below q t && reach m (R q) x y) (sym (length-map nodes label_of)))
      ∙ ap (λ b. b && R t x y || any p.count (λ q. (box_in p).transitive q && (box_in p).below q t && reach (length (labels nodes)) (R q) x y)) (lt-ltb t p.count l)

  -- an individual bears a name where its label meets the set of the name's entries
  borne_is : (names : List ℕ) (x n : ℕ) → x < length nodes → n < 64 → NamedTo p p.width names
      → not (eqb (bit_and (get_or nodes x blank).label.plus (get_or names n 0)) 0) ≡ borne (box_in p) (table_in p) (labels nodes) x n
  unfolding borne in_label
  borne_is names x n l h named =
      meet_is (get_or nodes x blank).label.plus (get_or names n 0) p.width (is_name_in p n) (λ j. named n j h)
      ∙ ap (λ a. any p.width (λ i. has a.plus i && is_name_in p n i)) (sym (get_or-map label_of nodes x blank empty l))

  -- name by name and role by role
  pub agrees : (roles : ℕ) (names rows : List ℕ) → 1 ≤ length nodes → length nodes ≤ 64 → p.count ≤ 64 → roles ≡ p.count - 1
      → NamedTo p p.width names → TableTo p nodes p.count rows → Agree (p.count - 1) (kept_world nodes roles names rows) (found_in p (labels nodes))
  agrees roles names rows some few small e named table =
      let count = length-map nodes label_of in
      record {
        size = omega arith;
        bears = λ x n l h. borne_is names x n (omega arith) h named;
        joins = λ r x y l h k.
            let inside : y < length nodes = omega arith in
            ap (λ c. ltb r c && has (get_or rows (64 * r + x) 0) y) e
            ∙ ap (λ b. ltb r (p.count - 1) && b)
            (ap (λ w. has w y) (table r x (omega arith) (omega arith)) ∙ has_set (length nodes) y (joined_to p nodes p.count r x) inside ∙ joined_is r x y (omega arith));
      }
