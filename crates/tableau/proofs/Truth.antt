-- What the labels say is true in the found world, and its roles are as the hierarchy says.
use Rattle.std.proofs.Common.{◌≡◌, ℕ, zero, suc, ◌+◌, ◌<◌, ◌≤◌, Bool, true, false, not, ◌&&◌, eqb, ◌⊎◌, List, length, get_or, sym, refl, ap, ◌∙◌, subst, inl, inr, ⊎_elim, arith, Option, None, Some}
use Rattle.std.proofs.lemmas.Bool.{cases_Bool, cases_lt, and_parts, and_from, and_left, and_right, or_cases, or_left, or_right, or_from, both_ways, not_from_false, eqb-true, eq-eqb}
use Rattle.meaning.specs.Chains.{reach}
use Rattle.meaning.specs.Orders.{RoleBox}
use Rattle.meaning.specs.Worlds.{denotes}
use Rattle.meaning.specs.declared.Concept.{Concept}
use Rattle.meaning.specs.declared.Concept.TheVariants.{Nothing, Everything, Name, Not, And, Or, Restriction}
use Rattle.meaning.specs.declared.Quantifier.{Quantifier}
use Rattle.meaning.specs.declared.Quantifier.TheVariants.{Forall}
use Rattle.meaning.proofs.Chains.{reach_one, reach_join, reach_ind}
use Rattle.meaning.proofs.Tests.{any_from, any_some, none_any, all_from}
use Rattle.tableau.specs.declared.Label.{Label}
use Rattle.tableau.specs.declared.Entry.{Entry}
use Rattle.tableau.specs.declared.Entry.TheVariants.{Plain, Inclusion, Inclusions}
use Rattle.tableau.specs.declared.Demand.{Demand}
use Rattle.tableau.specs.Labels.{empty, in_label, contains, lowest}
use Rattle.tableau.specs.Entries.{Table, LowerEntry, Ordered}
use Rattle.tableau.specs.Expansions.{absurd_entry, clash}
use Rattle.tableau.specs.Seeds.{obliges, sign_of, obliged_at, role_of, seed_of, wants}
use Rattle.tableau.specs.Found.{is_name, leads, edge, joined, borne, found}
use Rattle.tableau.specs.Saturation.{Holds, Saturates}
use Rattle.tableau.proofs.Meanings.{means, Meaning}
use Rattle.tableau.proofs.Laws.{Follows, Concepts, Ruling, Tabled}
use Rattle.tableau.proofs.Tests.{never, not_sign}
use Rattle.tableau.proofs.Labelling.{There, lowest_there, contains_at}
use Rattle.tableau.proofs.Clashing.{one_sign, no_absurd}
use Rattle.tableau.proofs.Obligations.{obligation_is}
use Rattle.tableau.proofs.Restrictions.{oblige, restrict}
use Rattle.tableau.proofs.Standing.{Stands}
use Rattle.tableau.proofs.Telling.{Restricting, seed_part, seed_told, seed_travels, seed_propagates}

-- a chain of steps of R is one of steps of S, if each step of R is one of S
reach_wider : (R S : ℕ → ℕ → Bool) → ((x y : ℕ) → R x y ≡ true → S x y ≡ true) → (n x y : ℕ) → reach n R x y ≡ true → reach n S x y ≡ true
unfolding reach
reach_wider R S sub zero x y e = sub x y e
reach_wider R S sub (suc n) x y e = ⊎_elim
    (λ a. or_left (reach n S x y) (reach n S x n && reach n S n y) (reach_wider R S sub n x y a))
    (λ b. let p = and_parts (reach n R x n) (reach n R n y) b in
    or_right (reach n S x y) (reach n S x n && reach n S n y)
    (and_from (reach n S x n) (reach n S n y) (reach_wider R S sub n x n p.0) (reach_wider R S sub n n y p.1)))
    (or_cases (reach n R x y) (reach n R x n && reach n R n y) e)

module _ (H : RoleBox) (O : Ordered H) (B : Table) (ls : List Label) where
  -- an obligation that leads below r leads below s, if r is below s; and so does an edge, and what is joined
  leads_wider : (l : Label) (o : Option Demand) (r s y : ℕ) → H.below r s ≡ true → leads H B ls l o r y ≡ true → leads H B ls l o s y ≡ true
  unfolding leads
  leads_wider l None r s y b e = e
  leads_wider l (Some d) r s y b e =
      let met = eqb (lowest ls (seed_of H B l d.role d.sign d.part)) y in
      let p = and_parts (H.below d.role r) met e in
      and_from (H.below d.role s) met (O.law.transitive d.role r s p.0 b) p.1

  edge_wider : (r s x y : ℕ) → H.below r s ≡ true → edge H B ls r x y ≡ true → edge H B ls s x y ≡ true
  unfolding edge
  edge_wider r s x y b e =
      let l = get_or ls x empty in
      let k = any_some B.width (λ i. leads H B ls l (obliged_at B l i) r y) e in
      any_from B.width k.0 (λ i. leads H B ls l (obliged_at B l i) s y) k.1 (leads_wider l (obliged_at B l k.0) r s y b k.2)

  -- an edge joins, and so does a chain of edges below one transitive role
  edge_joins : (t x y : ℕ) → edge H B ls t x y ≡ true → joined H B ls t x y ≡ true
  unfolding joined
  edge_joins t x y e = or_left (edge H B ls t x y) _ e

  chain_joins : (t p x y : ℕ) → H.transitive p ≡ true → H.below p t ≡ true → reach (length ls) (edge H B ls p) x y ≡ true → joined H B ls t x y ≡ true
  unfolding joined
  chain_joins t p x y a b c = or_right (edge H B ls t x y) _
      (any_from H.count p (λ p. H.transitive p && H.below p t && reach (length ls) (edge H B ls p) x y) (O.inside p a)
      (and_from (H.transitive p && H.below p t) (reach (length ls) (edge H B ls p) x y) (and_from (H.transitive p) (H.below p t) a b) c))

  -- what is joined is joined by an edge or by such a chain
  joined_is : (t x y : ℕ) → joined H B ls t x y ≡ true
      → (edge H B ls t x y ≡ true) ⊎ ((p : ℕ) × (H.transitive p ≡ true) × (H.below p t ≡ true) × (reach (length ls) (edge H B ls p) x y ≡ true))
  unfolding joined
  joined_is t x y e = ⊎_elim
      (λ a. inl a)
      (λ b.
      let k = any_some H.count (λ p. H.transitive p && H.below p t && reach (length ls) (edge H B ls p) x y) b in
      let c = and_parts (H.transitive k.0 && H.below k.0 t) (reach (length ls) (edge H B ls k.0) x y) k.2 in
      let d = and_parts (H.transitive k.0) (H.below k.0 t) c.0 in
      inr (k.0, d.0, d.1, c.1))
      (or_cases (edge H B ls t x y) _ e)

  joined_wider : (r s x y : ℕ) → H.below r s ≡ true → joined H B ls r x y ≡ true → joined H B ls s x y ≡ true
  joined_wider r s x y b e = ⊎_elim
      (λ a. edge_joins s x y (edge_wider r s x y b a))
      (λ c. chain_joins s c.0 x y c.1 (O.law.transitive c.0 r s c.2 b) c.3)
      (joined_is r x y e)

  -- what r joins is joined by a chain of edges below r
  joined_chain : (r x y : ℕ) → joined H B ls r x y ≡ true → reach (length ls) (edge H B ls r) x y ≡ true
  joined_chain r x y e = ⊎_elim
      (λ a. reach_one (length ls) (edge H B ls r) x y a)
      (λ c. reach_wider (edge H B ls c.0) (edge H B ls r) (λ u v. edge_wider c.0 r u v c.2) (length ls) x y c.3)
      (joined_is r x y e)

  -- the roles of the found world are as the hierarchy says
  pub follows : Follows H (found H B ls)
  follows = record {
    inclusions = λ r s b x y lx ly j. joined_wider r s x y b j;
    transitivity = λ r t x y z lx ly lz a b.
        chain_joins r r x z t (O.law.reflexive r (O.inside r t))
        (reach_join (length ls) (edge H B ls r) x y z ly (joined_chain r x y a) (joined_chain r y z b));
  }

-- an entry from `plain` on is asked for with + alone
abbrev pub Sane : ℕ → Bool → ℕ → Type 0
Sane p true i = Unit {0}
Sane p false i = i < p

-- and one below it with either sign
pub sane_low : (p : ℕ) (s : Bool) (i : ℕ) → i < p → Sane p s i
sane_low p true i l = tt
sane_low p false i l = l

-- an entry below `plain` is no rule, and one from there on has the sign + and is one of a few kinds
abbrev Placed : ℕ → ℕ → Entry → Bool → Type 0
Placed p i e s = ((i < p) × Concepts e) ⊎ ((s ≡ true) × Ruling p e)

-- a concept that is no restriction is below `plain`
placed_low : (p i : ℕ) (c : Concept) (s : Bool) → ((r a : ℕ) → c ≡ Restriction Forall r a → ⊥) → Placed p i (Plain c) s → i < p
placed_low p i c s other (inl l) = l.0
placed_low p i c s other (inr g) = absurd (other g.1.0 g.1.1 g.1.2)

-- the part of a restriction is sane with its sign
sane_part : (p i : ℕ) (q : Quantifier) (r a : ℕ) (s : Bool) → a < i → Placed p i (Plain (Restriction q r a)) s → Sane p (sign_of q s) a
sane_part p i q r a s l (inl g) = sane_low p (sign_of q s) a (omega (arith, g.0))
sane_part p i q r a s l (inr g) = go g.1.0 g.1.1 g.1.2 g.0
  where
    go : (t b : ℕ) → Restriction q r a ≡ Restriction Forall t b → s ≡ true → Sane p (sign_of q s) a
    go t b e f =
        let k : q ≡ Forall = cc in
        let P : Bool → Type 0 = λ z. Sane p z a in
        let m : true ≡ sign_of q s = rw k (sym f) in
        subst P m tt

-- only the name n is the name n
name_is : (n : ℕ) (e : Entry) → is_name n e ≡ true → e ≡ Plain (Name n)
name_is n (Plain Nothing) h = absurd (both_ways false refl h)
name_is n (Plain Everything) h = absurd (both_ways false refl h)
name_is n (Plain (Name m)) h = ap (λ k. Plain (Name k)) (eqb-true m n h)
name_is n (Plain (Not a)) h = absurd (both_ways false refl h)
name_is n (Plain (And a b)) h = absurd (both_ways false refl h)
name_is n (Plain (Or a b)) h = absurd (both_ways false refl h)
name_is n (Plain (Restriction q r a)) h = absurd (both_ways false refl h)
name_is n (Inclusion c d) h = absurd (both_ways false refl h)
name_is n (Inclusions lo k) h = absurd (both_ways false refl h)

-- an edge below t leads to a node whose label contains the seed of a successor by a role below t
record Arc (H : RoleBox) (B : Table) (ls : List Label) (t x y : ℕ) : Type 0 where
  role : ℕ
  sign : Bool
  part : ℕ
  under : H.below role t ≡ true
  inside : y < length ls
  gets : Holds (get_or ls y empty) (seed_of H B (get_or ls x empty) role sign part)

module _ (H : RoleBox) (O : Ordered H) (B : Table) (T : Tabled H B) (ls : List Label) (S : Stands H B ls) where
  -- does the node x hold the signed entry
  abbrev At : ℕ → Bool → ℕ → Type 0
  At x s i = in_label (get_or ls x empty) s i ≡ true

  -- a node has no clash
  calm_at : (x : ℕ) → x < length ls → clash B (get_or ls x empty) ≡ false
  calm_at x l = (S.full x l).calm

  -- the node that an obligation leads to
  there : (x i r a : ℕ) (s : Bool) → x < length ls → i < B.width → obliged_at B (get_or ls x empty) i ≡ wants r s a
      → There ls (seed_of H B (get_or ls x empty) r s a)
  there x i r a s l w e = lowest_there ls (seed_of H B (get_or ls x empty) r s a) (S.met x i r a s l w e)

  -- and so does every edge
  arc : (t x y : ℕ) → x < length ls → edge H B ls t x y ≡ true → Arc H B ls t x y
  unfolding edge leads
  arc t x y l e =
      let k = any_some B.width (λ i. leads H B ls (get_or ls x empty) (obliged_at B (get_or ls x empty) i) t y) e in
      go k.0 k.1 (obliged_at B (get_or ls x empty) k.0) refl k.2
    where
      go : (i : ℕ) → i < B.width → (o : Option Demand) → obliged_at B (get_or ls x empty) i ≡ o → leads H B ls (get_or ls x empty) o t y ≡ true → Arc H B ls t x y
      go i w None e h = absurd (both_ways false refl h)
      go i w (Some d) e h =
          let z = seed_of H B (get_or ls x empty) d.role d.sign d.part in
          let p = and_parts (H.below d.role t) (eqb (lowest ls z) y) h in
          let g = eqb-true (lowest ls z) y p.1 in
          let k = there x i d.role d.part d.sign l w e in
          record {
            role = d.role;
            sign = d.sign;
            part = d.part;
            under = p.0;
            inside = omega (arith, g, k.inside);
            gets = contains_at (get_or ls y empty) z (subst (λ v. contains (get_or ls v empty) z ≡ true) g k.holds_it);
          }

  -- the edge of an obligation
  edge_from : (x i r a : ℕ) (s : Bool) → i < B.width → r < H.count → obliged_at B (get_or ls x empty) i ≡ wants r s a
      → edge H B ls r x (lowest ls (seed_of H B (get_or ls x empty) r s a)) ≡ true
  unfolding edge leads
  edge_from x i r a s w c e =
      let l = get_or ls x empty in
      let y = lowest ls (seed_of H B l r s a) in
      any_from B.width i (λ i. leads H B ls l (obliged_at B l i) r y) w
      (subst (λ o. leads H B ls l o r y ≡ true) (sym e) (and_from (H.below r r) (eqb y y) (O.law.reflexive r c) (eq-eqb y y refl)))

  -- a restriction by v of a label says what the successors by r are, where r is below p and p below v
  restricts : (n : Label) (r p : ℕ) (u : Bool) (k : ℕ) (q : Quantifier) (v a : ℕ) → k < B.width → B.entry k ≡ Plain (Restriction q v a) → obliges q u ≡ false
      → H.below p v ≡ true → H.below r p ≡ true → in_label n u k ≡ true → Restricting H B n r u k q v a
  restricts n r p u k q v a w is o pv rp h = record { low = w; held = h; is = is; every = o; above = O.law.transitive r p v rp pv }

  -- if z holds restriction i or j, then w is a node that holds j and the part
  abbrev Passes : Bool → Quantifier → ℕ → ℕ → ℕ → ℕ → ℕ → Type 0
  Passes u q i j a z w = z < length ls → (At z u i) ⊎ (At z u j) → (w < length ls) × At w u j × At w (sign_of q u) a

  -- A restriction i by t, and a restriction j by a transitive role that a successor by a role below p gets of i: along a
  -- chain of edges below p each node gets j and the part.
  chain_tells : (u : Bool) (q : Quantifier) (i j t v a p : ℕ) → i < B.width → j < B.width → obliges q u ≡ false
      → B.entry i ≡ Plain (Restriction q t a) → B.entry j ≡ Plain (Restriction q v a)
      → H.below p t ≡ true → H.below p v ≡ true → H.transitive v ≡ true
      → ((l : Label) (r : ℕ) (s : Bool) (b : ℕ) → H.below r p ≡ true → in_label l u i ≡ true → in_label (seed_of H B l r s b) u j ≡ true)
      → (x y : ℕ) → reach (length ls) (edge H B ls p) x y ≡ true → x < length ls → At x u i → At y (sign_of q u) a
  chain_tells u q i j t v a p wi wj o ei ej bt bv on first x y e l h =
      (reach_ind (edge H B ls p) (Passes u q i j a) step join (length ls) x y e l (inl h)).2
    where
      join : (x y z : ℕ) → Passes u q i j a x y → Passes u q i j a y z → Passes u q i j a x z
      join x y z f g l h = let k = f l h in g k.0 (inr k.1)

      step : (x y : ℕ) → edge H B ls p x y ≡ true → Passes u q i j a x y
      step x y e l h =
          let c = arc p x y l e in
          let n = get_or ls x empty in
          ⊎_elim
          (λ hi. (
            c.inside,
            c.gets u j (first n c.role c.sign c.part c.under hi),
            c.gets (sign_of q u) a (seed_told H B n c.role c.sign c.part u i q t a (restricts n c.role p u i q t a wi ei o bt c.under hi)),
          ))
          (λ hj.
          let d = restricts n c.role p u j q v a wj ej o bv c.under hj in (
            c.inside,
            c.gets u j (seed_travels H B n c.role c.sign c.part u j q v a d on),
            c.gets (sign_of q u) a (seed_told H B n c.role c.sign c.part u j q v a d),
          ))
          h

  -- what a restriction says of all successors is in the label of each
  joined_tells : (u : Bool) (q : Quantifier) (i t a : ℕ) → i < B.width → obliges q u ≡ false → B.entry i ≡ Plain (Restriction q t a)
      → (x y : ℕ) → x < length ls → At x u i → joined H B ls t x y ≡ true → At y (sign_of q u) a
  joined_tells u q i t a w o e x y l h j = ⊎_elim
      (λ d. let c = arc t x y l d in
      c.gets (sign_of q u) a (seed_told H B (get_or ls x empty) c.role c.sign c.part u i q t a (record { low = w; held = h; is = e; every = o; above = c.under })))
      (λ c. ⊎_elim (λ on. itself c.0 c.2 c.3 on) (λ off. other c.0 c.1 c.2 c.3 off) (cases_Bool (H.transitive t)))
      (joined_is H O B ls t x y j)
    where
      itself : (p : ℕ) → H.below p t ≡ true → reach (length ls) (edge H B ls p) x y ≡ true → H.transitive t ≡ true → At y (sign_of q u) a
      itself p b c on = chain_tells u q i i t t a p w w o e e b b on
          (λ m r s k d g. seed_travels H B m r s k u i q t a (restricts m r p u i q t a w e o b d g) on) x y c l h

      other : (p : ℕ) → H.transitive p ≡ true → H.below p t ≡ true → reach (length ls) (edge H B ls p) x y ≡ true → H.transitive t ≡ false → At y (sign_of q u) a
      other p tp b c off =
          let k = T.propagating i p t a q w e off tp b in
          let n = k.0 in
          let z : H.below p p ≡ true = O.law.reflexive p (O.inside p tp) in
          chain_tells u q i n t p a p w k.1 o e k.3 b z tp
          (λ m r s f d g. seed_propagates H B m r s f u i q t a (restricts m r p u i q t a w e o b d g) off n k.1 k.2
          (subst (λ v. H.below r (role_of v) ≡ true) (sym k.3) d)) x y c l h

  -- an entry that is asked for with a sign it may have
  placed : (i : ℕ) (s : Bool) → i < B.width → Sane B.plain s i → Placed B.plain i (B.entry i) s
  placed i s w n = ⊎_elim (λ l. inl (l, T.low i l)) (λ g. inr (plus s n g, T.high i w g)) (cases_lt i B.plain)
    where
      plus : (s : Bool) → Sane B.plain s i → B.plain ≤ i → s ≡ true
      plus true n g = refl
      plus false n g = absurd (omega arith)

  module _ (h : ℕ → ℕ → Bool) (x i : ℕ) (l : x < length ls) (w : i < B.width)
      (below : (y j : ℕ) (t : Bool) → y < length ls → j < i → Sane B.plain t j → At y t j → h j y ≡ t) where
    -- a part of a concept that is no restriction
    low_part : (c : Concept) (s : Bool) → ((r a : ℕ) → c ≡ Restriction Forall r a → ⊥) → Placed B.plain i (Plain c) s → (j : ℕ) (t : Bool) → j < i → At x t j → h j x ≡ t
    low_part c s other p j t q e = below x j t l q (sane_low B.plain t j (omega (arith, placed_low B.plain i c s other p))) e

    -- a name, a restriction, and any entry mean what the label says
    name_true : (n : ℕ) (s : Bool) → B.entry i ≡ Plain (Name n) → At x s i → borne H B ls x n ≡ s
    unfolding borne
    name_true n true e g =
        any_from B.width i (λ i. in_label (get_or ls x empty) true i && is_name n (B.entry i)) w
        (and_from (in_label (get_or ls x empty) true i) (is_name n (B.entry i)) g (ap (is_name n) e ∙ eq-eqb n n refl))
    name_true n false e g = none_any B.width (λ j. in_label (get_or ls x empty) true j && is_name n (B.entry j)) (λ j v. ⊎_elim
        (λ t.
        let p = and_parts (in_label (get_or ls x empty) true j) (is_name n (B.entry j)) t in
        let same : j ≡ i = T.names j i n v w (name_is n (B.entry j) p.1) e in
        absurd (one_sign B (get_or ls x empty) (calm_at x l) i w (subst (At x true) same p.0) g))
        (λ f. f)
        (cases_Bool (in_label (get_or ls x empty) true j && is_name n (B.entry j))))

    restriction_true : (q : Quantifier) (r a : ℕ) (s : Bool) → B.entry i ≡ Plain (Restriction q r a) → a < i → Sane B.plain (sign_of q s) a → At x s i
        → denotes (found H B ls) (Restriction q r a) h x ≡ s
    restriction_true q r a s e low sane g = ⊎_elim some (λ o. restrict (found H B ls) r a x h q s o
        (λ y ly j. below y a (sign_of q s) ly low sane (joined_tells s q i r a w o e x y l g j)))
        (cases_Bool (obliges q s))
      where
        some : obliges q s ≡ true → denotes (found H B ls) (Restriction q r a) h x ≡ s
        some o =
            let m = get_or ls x empty in
            let z = seed_of H B m r (sign_of q s) a in
            let y = lowest ls z in
            let k : obliged_at B m i ≡ wants r (sign_of q s) a = obligation_is B m (calm_at x l) i w s g q r a e o in
            let t = there x i r a (sign_of q s) l w k in
            oblige (found H B ls) r a x h q s o y t.inside
            (edge_joins H O B ls r x y (edge_from x i r a (sign_of q s) w (T.roles i r a q w e) k))
            (below y a (sign_of q s) t.inside low sane
            (contains_at (get_or ls y empty) z t.holds_it (sign_of q s) a (seed_part H B m r (sign_of q s) a)))

    entry_true : (e : Entry) (s : Bool) → B.entry i ≡ e → LowerEntry i e → Placed B.plain i e s → Saturates e s (get_or ls x empty) → At x s i
        → means (found H B ls) e h x ≡ s
    entry_true (Plain Nothing) true e low p c g = absurd (no_absurd B (get_or ls x empty) (calm_at x l) i w true g (ap (λ z. absurd_entry z true) e))
    entry_true (Plain Nothing) false e low p c g = refl
    entry_true (Plain Everything) true e low p c g = refl
    entry_true (Plain Everything) false e low p c g = absurd (no_absurd B (get_or ls x empty) (calm_at x l) i w false g (ap (λ z. absurd_entry z false) e))
    entry_true (Plain (Name n)) s e low p c g = name_true n s e g
    entry_true (Plain (Not a)) s e low p c g =
        sym (not_sign s (h a x) (sym (low_part (Not a) s (λ r b z. never cc) p a (not s) low c)))
    entry_true (Plain (And a b)) true e low p c g =
        let f = low_part (And a b) true (λ r b z. never cc) p in
        and_from (h a x) (h b x) (f a true low.0 c.0) (f b true low.1 c.1)
    entry_true (Plain (And a b)) false e low p c g =
        let f = low_part (And a b) false (λ r b z. never cc) p in
        ⊎_elim (λ u. and_left (h a x) (h b x) (f a false low.0 u)) (λ v. and_right (h a x) (h b x) (f b false low.1 v)) c
    entry_true (Plain (Or a b)) true e low p c g =
        let f = low_part (Or a b) true (λ r b z. never cc) p in
        ⊎_elim (λ u. or_left (h a x) (h b x) (f a true low.0 u)) (λ v. or_right (h a x) (h b x) (f b true low.1 v)) c
    entry_true (Plain (Or a b)) false e low p c g =
        let f = low_part (Or a b) false (λ r b z. never cc) p in
        or_from (h a x) (h b x) (f a false low.0 c.0) (f b false low.1 c.1)
    entry_true (Plain (Restriction q r a)) s e low p c g = restriction_true q r a s e low (sane_part B.plain i q r a s low p) g
    entry_true (Inclusion c d) true e low (inl p) k g = absurd p.1
    entry_true (Inclusion c d) true e low (inr p) k g = ⊎_elim
        (λ u. or_left (not (h c x)) (h d x) (not_from_false (h c x) (below x c false l low.0 p.1.0 u)))
        (λ v. or_right (not (h c x)) (h d x) (below x d true l low.1 tt v))
        k
    entry_true (Inclusion c d) false e low (inl p) k g = absurd p.1
    entry_true (Inclusion c d) false e low (inr p) k g = absurd (both_ways false refl p.0)
    entry_true (Inclusions lo n) true e low p k g = all_from n (λ m. h (lo + m) x) (λ m v. below x (lo + m) true l (omega arith) tt (k m v))
    entry_true (Inclusions lo n) false e low (inl p) k g = absurd p.1
    entry_true (Inclusions lo n) false e low (inr p) k g = absurd (both_ways false refl p.0)

    -- entry i means what the label of x says, if all entries below it do
    step_true : Meaning (found H B ls) B.entry h → (s : Bool) → Sane B.plain s i → At x s i → h i x ≡ s
    step_true M s sane g =
        M i x ∙ entry_true (B.entry i) s refl (T.lower i) (placed i s w sane) ((S.full x l).saturated i s w g) g

  module _ (h : ℕ → ℕ → Bool) (M : Meaning (found H B ls) B.entry h) where
    true_below : (b x i : ℕ) (s : Bool) → i < b → x < length ls → i < B.width → Sane B.plain s i → At x s i → h i x ≡ s
    true_below zero x i s k l w sane g = absurd (omega arith)
    true_below (suc b) x i s k l w sane g =
        step_true h x i l w (λ y j t ly v n q. true_below b y j t (omega arith) ly (omega arith) n q) M s sane g

    -- the truth lemma: each node is in the entries that its label has with +, and outside those with -
    pub truth : (x i : ℕ) (s : Bool) → x < length ls → i < B.width → Sane B.plain s i → in_label (get_or ls x empty) s i ≡ true → h i x ≡ s
    truth x i s l w sane g = true_below (suc i) x i s (omega arith) l w sane g
