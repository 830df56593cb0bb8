-- Failure is right: where the search fails, no individual of any world that follows the hierarchy satisfies the seed.
use Rattle.std.proofs.Common.{◌≡◌, ℕ, zero, suc, ◌+◌, ◌<◌, Bool, true, false, cond, not, ◌&&◌, ◌||◌, ◌⊎◌, List, [], ◌∷◌, ◌++◌, sym, refl, ap, ◌∙◌, inl, inr, ⊎_elim, Option, None, Some}
use Rattle.std.proofs.lemmas.Bool.{cases_Bool, and_parts, and_cases, or_cases, or_parts, both_ways, not-true, cond_both}
use Rattle.meaning.specs.Worlds.{Interpretation, denotes}
use Rattle.meaning.specs.Orders.{RoleBox}
use Rattle.meaning.specs.declared.Concept.TheVariants.{Nothing, Everything, Name, Not, And, Or, Restriction}
use Rattle.meaning.specs.declared.Quantifier.{Quantifier}
use Rattle.meaning.proofs.Tests.{none_any, all_at}
use Rattle.tableau.specs.declared.Label.{Label}
use Rattle.tableau.specs.declared.Entry.{Entry}
use Rattle.tableau.specs.declared.Entry.TheVariants.{Plain, Inclusion, Inclusions}
use Rattle.tableau.specs.declared.Demand.{Demand}
use Rattle.tableau.specs.Labels.{empty, in_label, put, any_contains}
use Rattle.tableau.specs.Entries.{Table}
use Rattle.tableau.specs.Expansions.{Ways, One, Two, absurd_entry, clash_at, clash, one_of, grown, taken, branch, expand, expansions}
use Rattle.tableau.specs.Seeds.{obliges, sign_of, obliged_at, role_of, seed_of, wants}
use Rattle.tableau.specs.Search.{failed, Searcher, reuse, pursue, meet_from, try_each, enter, explore}
use Rattle.tableau.specs.Saturation.{In}
use Rattle.tableau.proofs.Meanings.{means, Meaning}
use Rattle.tableau.proofs.Laws.{Follows, Tabled}
use Rattle.tableau.proofs.Tests.{never, not_sign}
use Rattle.tableau.proofs.Folding.{fold_keeps}
use Rattle.tableau.proofs.Labelling.{in_empty, put_cases}
use Rattle.tableau.proofs.Restrictions.{obliged, restricted, restrict}
use Rattle.tableau.proofs.Obligations.{obliging_at}
use Rattle.tableau.proofs.Outcomes.{then_cases, else_cases}
use Rattle.tableau.proofs.Standing.{in_left, in_right}
use Rattle.tableau.proofs.Telling.{Restricting, seed_stays}

-- the individual x is in each entry with + of the label, and outside each with -
abbrev pub Sat : (ℕ → ℕ → Bool) → ℕ → Label → Type 0
Sat h x l = (s : Bool) (i : ℕ) → in_label l s i ≡ true → h i x ≡ s

-- no individual of the world satisfies the label
abbrev pub Absent : Interpretation → (ℕ → ℕ → Bool) → Label → Type 0
Absent W h l = (x : ℕ) → x < W.size → Sat h x l → ⊥

module _ (h : ℕ → ℕ → Bool) (x : ℕ) where
  -- what is put in is true of x, if it is
  sat_put : (s : Bool) (i : ℕ) (l : Label) → h i x ≡ s → Sat h x l → Sat h x (put s i l)
  sat_put s i l e S t j m = ⊎_elim (λ p. let same = p.0 in let here = p.1 in cc) (S t j) (put_cases s i l t j m)

  -- one of the ways is open to x
  abbrev Open : Ways → Type 0
  Open (One l) = Sat h x l
  Open (Two l m) = Sat h x l ⊎ Sat h x m

  -- two entries, or one of two
  open_both : (t : Bool) (a b : ℕ) (l : Label) → Sat h x l → (h a x ≡ t) × (h b x ≡ t) → Sat h x (put t a (put t b l))
  open_both t a b l S p = sat_put t a (put t b l) p.0 (sat_put t b l p.1 S)

  open_either : (t u : Bool) (a b : ℕ) (l : Label) → Sat h x l → (h a x ≡ t) ⊎ (h b x ≡ u) → (c : Bool) → Open (one_of c (put t a l) (put u b l) l)
  open_either t u a b l S p true = S
  open_either t u a b l S p false = ⊎_elim (λ e. inl (sat_put t a l e S)) (λ e. inr (sat_put u b l e S)) p

  -- what an entry that holds of x adds holds of x, by one way at least
  grown_open : (W : Interpretation) (e : Entry) (s : Bool) → means W e h x ≡ s → (l : Label) → Sat h x l → Open (grown e s l)
  grown_open W (Plain Nothing) s m l S = S
  grown_open W (Plain Everything) s m l S = S
  grown_open W (Plain (Name n)) s m l S = S
  grown_open W (Plain (Not a)) s m l S = sat_put (not s) a l (not_sign (h a x) s m) S
  grown_open W (Plain (And a b)) true m l S = open_both true a b l S (and_parts (h a x) (h b x) m)
  grown_open W (Plain (And a b)) false m l S = open_either false false a b l S (and_cases (h a x) (h b x) m) (in_label l false a || in_label l false b)
  grown_open W (Plain (Or a b)) true m l S = open_either true true a b l S (or_cases (h a x) (h b x) m) (in_label l true a || in_label l true b)
  grown_open W (Plain (Or a b)) false m l S = open_both false a b l S (or_parts (h a x) (h b x) m)
  grown_open W (Plain (Restriction q r a)) s m l S = S
  grown_open W (Inclusion c d) true m l S = open_either false true c d l S
      (⊎_elim (λ e. inl (not-true (h c x) e)) (λ e. inr e) (or_cases (not (h c x)) (h d x) m)) (in_label l false c || in_label l true d)
  grown_open W (Inclusion c d) false m l S = S
  grown_open W (Inclusions lo n) true m l S =
      fold_keeps (Sat h x) n (λ k. put true (lo + k)) (λ k a b p. sat_put true (lo + k) a (all_at n (λ j. h (lo + j) x) m k b) p) l S
  grown_open W (Inclusions lo n) false m l S = S

  -- what no individual has, x has not
  absurd_never : (W : Interpretation) (e : Entry) (s : Bool) → absurd_entry e s ≡ true → means W e h x ≡ s → ⊥
  absurd_never W (Plain Nothing) s a m = both_ways s (sym m) a
  absurd_never W (Plain Everything) s a m = both_ways s (not-true s a) (sym m)
  absurd_never W (Plain (Name n)) s a m = both_ways false refl a
  absurd_never W (Plain (Not b)) s a m = both_ways false refl a
  absurd_never W (Plain (And b c)) s a m = both_ways false refl a
  absurd_never W (Plain (Or b c)) s a m = both_ways false refl a
  absurd_never W (Plain (Restriction q r b)) s a m = both_ways false refl a
  absurd_never W (Inclusion c d) s a m = both_ways false refl a
  absurd_never W (Inclusions lo n) s a m = both_ways false refl a

-- Local completeness: what x satisfies has an expansion that x satisfies.
module _ (B : Table) (W : Interpretation) (h : ℕ → ℕ → Bool) (M : Meaning W B.entry h) (x : ℕ) where
  -- what the label says of an entry, it says of its meaning
  holds_of : (l : Label) → Sat h x l → (s : Bool) (i : ℕ) → in_label l s i ≡ true → means W (B.entry i) h x ≡ s
  holds_of l S s i m = sym (M i x) ∙ S s i m

  -- none of the three clashes is at an entry
  no_clash_at : (l : Label) → Sat h x l → (i : ℕ) → clash_at (B.entry i) l i ≡ true → ⊥
  no_clash_at l S i e =
      let both = in_label l true i && in_label l false i in
      let plus = in_label l true i && absurd_entry (B.entry i) true in
      let minus = in_label l false i && absurd_entry (B.entry i) false in
      ⊎_elim
      (λ d. ⊎_elim
      (λ p. let k = and_parts (in_label l true i) (in_label l false i) p in both_ways (h i x) (S false i k.1) (S true i k.0))
      (λ p. never true p)
      (or_cases both plus d))
      (λ p. never false p)
      (or_cases (both || plus) minus e)
    where
      never : (s : Bool) → (in_label l s i && absurd_entry (B.entry i) s) ≡ true → ⊥
      never s p = let k = and_parts (in_label l s i) (absurd_entry (B.entry i) s) p in absurd_never h x W (B.entry i) s k.1 (holds_of l S s i k.0)

  -- a label that an individual satisfies has no clash
  pub sat_calm : (l : Label) → Sat h x l → clash B l ≡ false
  unfolding clash
  sat_calm l S = none_any B.width (λ i. clash_at (B.entry i) l i)
      (λ i b. ⊎_elim (λ e. absurd (no_clash_at l S i e)) (λ e. e) (cases_Bool (clash_at (B.entry i) l i)))

  -- the entry that is taken leaves a way open
  taken_open : (k : ℕ) (l : Label) → Sat h x l → Open h x (taken (B.entry k) k l)
  unfolding taken
  taken_open k l S = cond_both (in_label l true k) (grown (B.entry k) true l) (cond (in_label l false k) (grown (B.entry k) false l) (One l)) (Open h x)
      (λ m. grown_open h x W (B.entry k) true (holds_of l S true k m) l S)
      (λ n. cond_both (in_label l false k) (grown (B.entry k) false l) (One l) (Open h x)
      (λ m. grown_open h x W (B.entry k) false (holds_of l S false k m) l S)
      (λ m. S))

  -- x satisfies a label of the list
  abbrev Meets : List Label → Type 0
  Meets ls = (e : Label) × In e ls × Sat h x e

  -- and the ways that are open lead to it
  branch_meets : (f : Label → List Label) → ((l : Label) → Sat h x l → Meets (f l)) → (w : Ways) → Open h x w → Meets (branch f w)
  unfolding branch
  branch_meets f g (One l) S = g l S
  branch_meets f g (Two l m) p = ⊎_elim
      (λ S. let k = g l S in (k.0, in_left k.0 (f l) (f m) k.1, k.2))
      (λ S. let k = g m S in (k.0, in_right k.0 (f l) (f m) k.1, k.2))
      p

  -- and so on down to the last entry
  expand_meets : (k : ℕ) (l : Label) → Sat h x l → Meets (expand B k l)
  unfolding expand
  expand_meets zero l S = rw (sat_calm l S) (l, inl refl, S)
  expand_meets (suc k) l S = branch_meets (expand B k) (expand_meets k) (taken (B.entry k) k l) (taken_open k l S)

  -- what x satisfies has an expansion that x satisfies
  pub some_expansion : (seed : Label) → Sat h x seed → (e : Label) × In e (expansions B seed) × Sat h x e
  unfolding expansions
  some_expansion seed S = expand_meets B.width seed S

-- One step: an obligation of x leads to an individual that satisfies its seed.
module _ (H : RoleBox) (B : Table) (T : Tabled H B) (W : Interpretation) (F : Follows H W) (h : ℕ → ℕ → Bool) (M : Meaning W B.entry h) where
  -- r joins x to y
  module _ (r x y : ℕ) (bx : x < W.size) (by : y < W.size) (j : W.joins r x y ≡ true) where
    -- a restriction by t of x, as one by a transitive role p between r and t, holds of y
    passed_on : (p t a : ℕ) (q : Quantifier) (s : Bool) → obliges q s ≡ false → denotes W (Restriction q t a) h x ≡ s
        → H.transitive p ≡ true → H.below r p ≡ true → ((z : ℕ) → z < W.size → W.joins p x z ≡ true → W.joins t x z ≡ true)
        → denotes W (Restriction q p a) h y ≡ s
    passed_on p t a q s o e on rp up = restrict W p a y h q s o
        (λ z bz jz. restricted W t a x h q s o e z bz (up z bz (F.transitivity p on x y z bx by bz (F.inclusions r p rp x y bx by j) jz)))

    -- what an entry says of y, it is
    means_at : (i : ℕ) (e : Entry) (s : Bool) → B.entry i ≡ e → means W e h y ≡ s → h i y ≡ s
    means_at i e s is m = M i y ∙ ap (λ c. means W c h y) is ∙ m

    -- y satisfies the seed of a successor by r of what x satisfies
    seed_sat : (l : Label) → Sat h x l → (s : Bool) (a : ℕ) → h a y ≡ s → Sat h y (seed_of H B l r s a)
    seed_sat l L s a e = seed_stays H B l r (Sat h y) (record { part = part; itself = itself; propagated = propagated }) s a (sat_put h y s a empty e (λ t i. in_empty t i))
      where
        -- what the restriction says is true of x
        said : (s : Bool) (i : ℕ) (q : Quantifier) (t a : ℕ) → Restricting H B l r s i q t a → denotes W (Restriction q t a) h x ≡ s
        said s i q t a c = ap (λ e. means W e h x) (sym c.is) ∙ holds_of B W h M x l L s i c.held

        part : (s : Bool) (i : ℕ) (q : Quantifier) (t a : ℕ) → Restricting H B l r s i q t a → (m : Label) → Sat h y m → Sat h y (put (sign_of q s) a m)
        part s i q t a c m =
            sat_put h y (sign_of q s) a m (restricted W t a x h q s c.every (said s i q t a c) y by (F.inclusions r t c.above x y bx by j))

        itself : (s : Bool) (i : ℕ) (q : Quantifier) (t a : ℕ) → Restricting H B l r s i q t a → H.transitive t ≡ true → (m : Label) → Sat h y m → Sat h y (put s i m)
        itself s i q t a c on m = sat_put h y s i m
            (means_at i (Plain (Restriction q t a)) s c.is (passed_on t t a q s c.every (said s i q t a c) on c.above (λ z bz jz. jz)))

        propagated : (s : Bool) (i : ℕ) (q : Quantifier) (t a : ℕ) → Restricting H B l r s i q t a → (k : ℕ) → k < B.width → B.propagates i k ≡ true
            → H.below r (role_of (B.entry k)) ≡ true → (m : Label) → Sat h y m → Sat h y (put s k m)
        propagated s i q t a c k w g d m =
            let P = T.propagated i k t a q g c.is in
            sat_put h y s k m
            (means_at k (Plain (Restriction q P.0 a)) s P.1
            (passed_on P.0 t a q s c.every (said s i q t a c) P.2 (ap (λ u. H.below r (role_of u)) (sym P.1) ∙ d)
            (λ z bz. F.inclusions P.0 t P.3 x z bx bz)))

  -- an obligation of x is met in the world, by an individual that satisfies its seed
  pub some_successor : (x : ℕ) → x < W.size → (l : Label) → Sat h x l → (i r a : ℕ) (s : Bool) → obliged_at B l i ≡ wants r s a
      → (y : ℕ) × (y < W.size) × (W.joins r x y ≡ true) × Sat h y (seed_of H B l r s a)
  some_successor x bx l L i r a s e =
      let c = obliging_at B l i r s a e in
      let k = obliged W r a x h c.quantifier c.sign c.obliging (ap (λ e. means W e h x) (sym c.is) ∙ holds_of B W h M x l L c.sign i c.held) in
      (k.0, k.1, k.2, seed_sat r x k.0 bx k.1 k.2 l L s a (k.3 ∙ c.part_sign))

  -- a label with an obligation whose seed none satisfies, none satisfies
  pub obligation_absent : (l : Label) (i r a : ℕ) (s : Bool) → obliged_at B l i ≡ wants r s a → Absent W h (seed_of H B l r s a) → Absent W h l
  obligation_absent l i r a s e none x bx L =
      let k = some_successor x bx l L i r a s e in
      none k.0 k.1 k.3

  -- a seed none of whose expansions is satisfied, none satisfies
  pub expansions_absent : (seed : Label) → ((e : Label) → In e (expansions B seed) → Absent W h e) → Absent W h seed
  expansions_absent seed none x bx S =
      let k = some_expansion B W h M x seed S in
      none k.0 k.1 x bx k.2

  -- Theorem: each level of the search fails only where none satisfies, if the search for a further node does.
  abbrev Refutes : Searcher → Type 0
  Refutes sub = (st : List Label) (seed : Label) → sub st seed ≡ failed → Absent W h seed

  module _ (sub : Searcher) (R : Refutes sub) where
    -- a reused label does not fail
    reuse_fails : (b : Bool) (st : List Label) (seed : Label) → reuse b sub st seed ≡ failed → Absent W h seed
    unfolding reuse
    reuse_fails true st seed e = never cc
    reuse_fails false st seed e = R st seed e

    -- an obligation that fails is of a label that none satisfies
    pursue_fails : (l : Label) (i : ℕ) (o : Option Demand) → obliged_at B l i ≡ o → (st : List Label) → pursue H B sub l o st ≡ failed → Absent W h l
    unfolding pursue
    pursue_fails l i None is st e = never cc
    pursue_fails l i (Some d) is st e =
        let seed = seed_of H B l d.role d.sign d.part in
        obligation_absent l i d.role d.part d.sign is (reuse_fails (any_contains st seed) st seed e)

    -- and so is one of several
    meet_fails : (l : Label) (d i : ℕ) (st : List Label) → meet_from H B sub l d i st ≡ failed → Absent W h l
    unfolding meet_from
    meet_fails l zero i st = λ e. never cc
    meet_fails l (suc d) i st =
        then_cases (λ o. o ≡ failed → Absent W h l) (pursue H B sub l (obliged_at B l i) st) (meet_from H B sub l d (suc i))
        (λ o e. pursue_fails l i (obliged_at B l i) refl st o) (λ o e. never cc) (λ ls o. meet_fails l d (suc i) ls)

    -- where every expansion fails, none satisfies any
    try_fails : (st es : List Label) → try_each H B sub st es ≡ failed → (e : Label) → In e es → Absent W h e
    unfolding try_each
    try_fails st [] = λ f e m. absurd m
    try_fails st (l ∷ es) =
        else_cases (λ o. o ≡ failed → (e : Label) → In e (l ∷ es) → Absent W h e) (meet_from H B sub l B.width 0 (st ++ l ∷ [])) (λ u. try_each H B sub st es)
        (λ o f e m. ⊎_elim (λ (same : l ≡ e). rw same at (meet_fails l B.width 0 (st ++ l ∷ []) o)) (try_fails st es f e) m)
        (λ o f. never cc) (λ ls o f. never cc)

    -- and so none satisfies the seed
    enter_fails : (b : Bool) (st : List Label) (seed : Label) → enter H B b sub st seed ≡ failed → Absent W h seed
    unfolding enter
    enter_fails true st seed e = never cc
    enter_fails false st seed e = expansions_absent seed (try_fails st (expansions B seed) e)

  -- so the whole search, by its depth
  explore_fails : (n k : ℕ) → Refutes (explore H B n k)
  unfolding explore
  explore_fails n zero st seed e = never cc
  explore_fails n (suc k) st seed e = enter_fails (explore H B n k) (explore_fails n k) _ st seed e

-- the search fails only where no individual of any such world satisfies its seed
pub failure : (H : RoleBox) (B : Table) → Tabled H B → (n k : ℕ) (st : List Label) (seed : Label) → explore H B n k st seed ≡ failed
    → (W : Interpretation) → Follows H W → (h : ℕ → ℕ → Bool) → Meaning W B.entry h → (x : ℕ) → x < W.size → Sat h x seed → ⊥
failure H B T n k st seed e W F h M = explore_fails H B T W F h M n k st seed e
