-- Class numbers and inseparable entries.
use Rattle.std.proofs.Common.{◌≡◌, ℕ, ◌<◌, ◌≤◌, List, [], ◌++◌, length, get_or, sym, ap, ◌∙◌, subst, inl, inr, ⊎_elim, append_assoc, append-nil, arith, length-append}
use Rattle.std.proofs.lemmas.List.{get_or_append_left}
use Rattle.std.proofs.lemmas.Bool.{cases_Bool}
use Rattle.meaning.specs.Worlds.{holds}
use Rattle.meaning.specs.Orders.{RoleBox}
use Rattle.meaning.specs.Books.{Book}
use Rattle.runs.specs.Runs.{Separated, Inseparable}
use Rattle.runs.proofs.Searching.{Inhabited}
use Rattle.runs.proofs.Filing.{Kept, Belongs}

-- the classes cs are the first of ds
abbrev pub Extends : List ℕ → List ℕ → Type 0
Extends cs ds = (es : List ℕ) × (ds ≡ cs ++ es)

pub extends_same : (cs : List ℕ) → Extends cs cs
extends_same cs = ([], sym (append-nil cs))

pub extends_equal : (cs ds : List ℕ) → ds ≡ cs → Extends cs ds
extends_equal cs ds e = ([], e ∙ sym (append-nil cs))

pub extends_more : (cs ds es : List ℕ) → Extends cs ds → Extends ds es → Extends cs es
extends_more cs ds es a b = (a.0 ++ b.0, b.1 ∙ ap (λ l. l ++ b.0) a.1 ∙ append_assoc cs a.0 b.0)

pub extends_long : (cs ds : List ℕ) → Extends cs ds → length cs ≤ length ds
extends_long cs ds a = omega (arith, ap length a.1, length-append cs a.0)

-- an old class stands by the same entry
pub extends_at : (cs ds : List ℕ) → Extends cs ds → (k : ℕ) → k < length cs → get_or ds k 0 ≡ get_or cs k 0
extends_at cs ds a k l = ap (λ l. get_or l k 0) a.1 ∙ get_or_append_left cs a.0 0 k l

module _ (H : RoleBox) (K : Book) where
  -- between two entries there is no third that is inseparable from one and separated from the other
  pub inseparable_join : (a b c : ℕ) → Inseparable H K a c → Inseparable H K b c → Inseparable H K a b
  inseparable_join a b c p q = (one a b p q, one b a q p)
    where
      one : (a b : ℕ) → Inseparable H K a c → Inseparable H K b c → Separated H K a b → ⊥
      one a b p q s = ⊎_elim
          (λ t. q.1 (record { world = s.world; keeps = s.keeps; individual = s.individual; there = s.there; inside = t; outside = s.outside }))
          (λ f. p.0 (record { world = s.world; keeps = s.keeps; individual = s.individual; there = s.there; inside = s.inside; outside = f }))
          (cases_Bool (holds s.world K.concept c s.individual))

  pub inseparable_turned : (a b : ℕ) → Inseparable H K a b → Inseparable H K b a
  inseparable_turned a b p = (p.1, p.0)

  -- an individual in one of two inseparable entries is in the other
  inhabited_along : (a b : ℕ) → Inseparable H K a b → Inhabited H K a → Inhabited H K b
  inhabited_along a b p i = ⊎_elim
      (λ t. record { world = i.world; keeps = i.keeps; individual = i.individual; there = i.there; inside = t })
      (λ f. absurd (p.0 (record { world = i.world; keeps = i.keeps; individual = i.individual; there = i.there; inside = i.inside; outside = f })))
      (cases_Bool (holds i.world K.concept b i.individual))

  module _ (cs : List ℕ) (kept : Kept H K cs) where
    -- entries without an individual in any world are inseparable
    none_inseparable : (a b : ℕ) → (Inhabited H K a → ⊥) → (Inhabited H K b → ⊥) → Inseparable H K a b
    none_inseparable a b f g = (
      (λ s. f (record { world = s.world; keeps = s.keeps; individual = s.individual; there = s.there; inside = s.inside })),
      (λ s. g (record { world = s.world; keeps = s.keeps; individual = s.individual; there = s.there; inside = s.inside })),
    )

    -- an entry of class 0 is separated from one of another class
    none_some : (a b k : ℕ) → (Inhabited H K a → ⊥) → k < length cs → Inseparable H K b (get_or cs k 0) → Inseparable H K a b → ⊥
    none_some a b k f l p q =
        f (inhabited_along b a (inseparable_turned a b q) (inhabited_along (get_or cs k 0) b (inseparable_turned b (get_or cs k 0) p) (kept.some k l)))

    -- class 0 has the entries that no world has an individual in, and no others
    pub zero_none : (a : ℕ) → Belongs H K cs a 0 → Inhabited H K a → ⊥
    zero_none a (inl x) i = x.1 i
    zero_none a (inr x) i = omega (arith, x.1)

    pub none_zero : (a p : ℕ) → Belongs H K cs a p → (Inhabited H K a → ⊥) → p ≡ 0
    none_zero a p (inl x) f = x.0
    none_zero a p (inr x) f = absurd (f (inhabited_along (get_or cs x.0 0) a (inseparable_turned a (get_or cs x.0 0) x.3) (kept.some x.0 x.2)))

    pub equal_inseparable : (a b p q : ℕ) → Belongs H K cs a p → Belongs H K cs b q → p ≡ q → Inseparable H K a b
    equal_inseparable a b p q (inl x) (inl y) e = none_inseparable a b x.1 y.1
    equal_inseparable a b p q (inl x) (inr y) e = absurd (omega (arith, x.0, y.1))
    equal_inseparable a b p q (inr x) (inl y) e = absurd (omega (arith, x.1, y.0))
    equal_inseparable a b p q (inr x) (inr y) e =
        let same : y.0 ≡ x.0 = omega (arith, x.1, y.1) in
        inseparable_join a b (get_or cs x.0 0) x.3 (subst (λ k. Inseparable H K b (get_or cs k 0)) same y.3)

    pub inseparable_equal : (a b p q : ℕ) → Belongs H K cs a p → Belongs H K cs b q → Inseparable H K a b → p ≡ q
    inseparable_equal a b p q (inl x) (inl y) s = omega (arith, x.0, y.0)
    inseparable_equal a b p q (inl x) (inr y) s = absurd (none_some a b y.0 x.1 y.2 y.3 s)
    inseparable_equal a b p q (inr x) (inl y) s = absurd (none_some b a x.0 y.1 x.2 x.3 (inseparable_turned a b s))
    inseparable_equal a b p q (inr x) (inr y) s =
        let c = get_or cs x.0 0 in
        let d = get_or cs y.0 0 in
        let same = kept.different x.0 y.0 x.2 y.2
        (inseparable_join c d b (inseparable_turned b c (inseparable_join b c a (inseparable_turned a b s) (inseparable_turned a c x.3))) (inseparable_turned b d y.3)) in
        omega (arith, x.1, y.1, same)

  -- where an entry belongs it belongs when there are more classes
  pub belongs_more : (cs ds : List ℕ) → Extends cs ds → (a p : ℕ) → Belongs H K cs a p → Belongs H K ds a p
  belongs_more cs ds e a p (inl x) = inl x
  belongs_more cs ds e a p (inr x) =
      inr (x.0, x.1, omega (arith, x.2, extends_long cs ds e), subst (Inseparable H K a) (sym (extends_at cs ds e x.0 x.2)) x.3)
