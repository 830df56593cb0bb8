-- What is foreseen of the expansions of a label. Where a clash is foreseen there are none.
use Rattle.std.proofs.Common.{◌≡◌, ℕ, zero, suc, ◌-◌, ◌<◌, Bool, true, false, cond, ◌||◌, eqb, List, [], ◌∷◌, ◌++◌, sym, refl, ap, ◌∙◌, subst, ⊎_elim, inl, arith}
use Rattle.std.proofs.lemmas.Bool.{both_ways, or_cases, cond_both}
use Rattle.tableau.specs.declared.Label.{Label}
use Rattle.tableau.specs.Labels.{in_label, put, joined}
use Rattle.tableau.specs.Entries.{Table}
use Rattle.tableau.specs.Expansions.{Ways, One, Two, clash, taken, branch, expand}
use Rattle.tableau.specs.Saturation.{In}
use Rattle.tableau.proofs.Labelling.{put_in}
use Rattle.tableau.proofs.Standing.{in_left, in_right, in_append}
use Rattle.tableau.proofs.Growing.{Expanded, expand_right}
use Rattle.plan.specs.declared.Plan.{Plan}
use Rattle.plan.specs.Meanings.{table_in}
use Rattle.plan.specs.Forcing.{forced_by}
use Rattle.plan.proofs.Lowered.{plan_lower}
use Rattle.plan.proofs.Forcing.{holds_joined}
use Rattle.expand.specs.Choices.{weight, fork, from}
use Rattle.expand.specs.Runs.{Along, Foreseen}
use Rattle.expand.proofs.Choosing.{clash_grows, from_zero}

-- what is among the expansions from a choice word on is an expansion
in_fork : (f g h : Label → List Label) (e : Label) → ((m : Label) → In e (f m) → In e (h m)) → ((m : Label) → In e (g m) → In e (h m))
    → (w : Ways) → In e (fork f g w) → In e (branch h w)
unfolding fork branch
in_fork f g h e p q (One l) i = p l i
in_fork f g h e p q (Two l m) i = ⊎_elim (λ a. in_left e (h l) (h m) (p l a)) (λ a. in_right e (h l) (h m) (q m a)) (in_append e (f l) (g m) i)

pub from_in : (B : Table) (k : ℕ) (l : Label) (c : ℕ) (e : Label) → In e (from B k l c) → In e (expand B k l)
unfolding from expand
from_in B zero l c e = cond_both (eqb c 0) (cond (clash B l) [] (l ∷ [])) [] (λ ls. In e ls → In e (cond (clash B l) [] (l ∷ []))) (λ h i. i) (λ h i. absurd i)
from_in B (suc k) l c e = in_fork (λ m. from B k m c) (λ m. from B k m (c - weight k)) (expand B k) e (λ m. from_in B k m c e) (λ m. from_in B k m (c - weight k) e) (taken (B.entry k) k l)

none : (ls : List Label) → ((e : Label) → In e ls → ⊥) → ls ≡ []
none [] h = refl
none (l ∷ ls) h = absurd (h l (inl refl))

-- what is foreseen goes with the label
module _ (B : Table) (k : ℕ) (l h : Label) (so : Foreseen B k l h) where
  pub foreseen_along : (j : ℕ) (m : Label) → Along B k l j m → Foreseen B j m h
  foreseen_along j m a e i =
      so e (subst (In e) (from_zero B k l) (subst (In e) (sym (a.same 0)) (subst (In e) (sym (from_zero B j m)) i)))

  -- and with both alternatives
  module _ (j : ℕ) (x y : Label) (here : k ≡ suc j) (t : taken (B.entry j) j l ≡ Two x y) where
    by_two : expand B k l ≡ expand B j x ++ expand B j y
    unfolding expand branch
    by_two = ap (λ n. expand B n l) here ∙ ap (branch (expand B j)) t

    pub foreseen_first : Foreseen B j x h
    foreseen_first e i = so e (subst (In e) (sym by_two) (in_left e (expand B j x) (expand B j y) i))

    pub foreseen_second : Foreseen B j y h
    foreseen_second e i = so e (subst (In e) (sym by_two) (in_right e (expand B j x) (expand B j y) i))

-- by the table of a plan
module _ (p : Plan) (k : ℕ) (l : Label) where
  expanded : (e : Label) → In e (expand (table_in p) k l) → Expanded (table_in p) k l e
  expanded e i = expand_right (table_in p) (plan_lower p) k l e i

  -- where a clash is foreseen there is no expansion
  pub foreseen_clash : (h : Label) → Foreseen (table_in p) k l h → clash (table_in p) h ≡ true → (c : ℕ) → from (table_in p) k l c ≡ []
  foreseen_clash h so bad c = none (from (table_in p) k l c) (λ e i.
      let j = from_in (table_in p) k l c e i in
      both_ways (clash (table_in p) e) (expanded e j).calm (clash_grows (table_in p) h e (so e j) bad))

  -- a label is foreseen of itself
  pub foreseen_self : Foreseen (table_in p) k l l
  foreseen_self e i = (expanded e i).grew.holds

  -- what a signed entry forces that the label holds
  pub foreseen_forced : (h : Label) (s : Bool) (i : ℕ) → Foreseen (table_in p) k l h → i < k → in_label l s i ≡ true → Foreseen (table_in p) k l (joined h (forced_by p.forced s i))
  foreseen_forced h s i so low here e j =
      let x = expanded e j in
      holds_joined e h (forced_by p.forced s i) (so e j)
      (p.forced_is s i e (λ a t near far held. x.done a t (omega arith) far held) (x.grew.holds s i here))

-- the same for one that is put in
pub foreseen_put : (p : Plan) (k : ℕ) (l h : Label) (s : Bool) (i : ℕ) → Foreseen (table_in p) k (put s i l) h → i < k
    → Foreseen (table_in p) k (put s i l) (joined h (forced_by p.forced s i))
foreseen_put p k l h s i so low = foreseen_forced p k (put s i l) h s i so low (put_in s i l)

-- the sign with which a label holds an entry, - where it does not hold it with +
pub sign_held : (l : Label) (i : ℕ) (s : Bool) → s ≡ in_label l true i → (in_label l true i || in_label l false i) ≡ true → in_label l s i ≡ true
sign_held l i true e h = sym e
sign_held l i false e h = ⊎_elim (λ t. absurd (both_ways (in_label l true i) (sym e) t)) (λ t. t) (or_cases (in_label l true i) (in_label l false i) h)

-- what is foreseen of each alternative of a fork
module _ (p : Plan) (j : ℕ) (m h : Label) (so : Foreseen (table_in p) (suc j) m h) (s t : Bool) (a b : ℕ)
    (forked : taken ((table_in p).entry j) j m ≡ Two (put s a m) (put t b m)) (l ahead : Label) where
  pub fork_first : a < j → l ≡ put s a m → ahead ≡ joined h (forced_by p.forced s a) → Foreseen (table_in p) j l ahead
  fork_first low e f = rw (e, f) (foreseen_put p j m h s a (foreseen_first (table_in p) (suc j) m h so j (put s a m) (put t b m) refl forked) low)

  pub fork_second : b < j → l ≡ put t b m → ahead ≡ joined h (forced_by p.forced t b) → Foreseen (table_in p) j l ahead
  fork_second low e f = rw (e, f) (foreseen_put p j m h t b (foreseen_second (table_in p) (suc j) m h so j (put s a m) (put t b m) refl forked) low)
