-- What an entry means does not depend on the depth, as long as it reaches the ground.
use Rattle.std.proofs.Common.{◌≡◌, ℕ, zero, suc, ◌<◌, Bool, not, ◌&&◌, ◌||◌, refl, ap, ◌∙◌, arith}
use Rattle.meaning.specs.Bounded.{any, all}
use Rattle.meaning.specs.Worlds.{Interpretation, Concept, denotes, deep, holds, Lower, EntriesMean}
use Rattle.meaning.specs.declared.Concept.TheVariants.{Nothing, Everything, Name, Not, And, Or, Restriction}
use Rattle.meaning.specs.declared.Quantifier.{Quantifier}
use Rattle.meaning.specs.declared.Quantifier.TheVariants.{Exists, Forall, NoneOf}

-- tests that agree on every number below n agree on `any` and on `all`
pub any_same : (n : ℕ) (p q : ℕ → Bool) → ((k : ℕ) → k < n → p k ≡ q k) → any n p ≡ any n q
unfolding any
any_same zero p q e = refl
any_same (suc n) p q e =
    ap (λ b. b || any n p) (e n (omega arith)) ∙ ap (λ b. q n || b) (any_same n p q (λ k h. e k (omega arith)))

pub all_same : (n : ℕ) (p q : ℕ → Bool) → ((k : ℕ) → k < n → p k ≡ q k) → all n p ≡ all n q
unfolding all
all_same zero p q e = refl
all_same (suc n) p q e =
    ap (λ b. b && all n p) (e n (omega arith)) ∙ ap (λ b. q n && b) (all_same n p q (λ k h. e k (omega arith)))

restricts : (W : Interpretation) (q : Quantifier) (r a : ℕ) (g h : ℕ → ℕ → Bool) → ((y : ℕ) → g a y ≡ h a y)
    → (x : ℕ) → denotes W (Restriction q r a) g x ≡ denotes W (Restriction q r a) h x
restricts W Exists r a g h e x = any_same W.size _ _ (λ y l. ap (λ b. W.joins r x y && b) (e y))
restricts W Forall r a g h e x = all_same W.size _ _ (λ y l. ap (λ b. not (W.joins r x y) || b) (e y))
restricts W NoneOf r a g h e x = all_same W.size _ _ (λ y l. ap (λ b. not (W.joins r x y) || not b) (e y))

-- a concept's meaning depends on its parts alone
pub denotes_same : (W : Interpretation) (i : ℕ) (c : Concept) → Lower i c → (g h : ℕ → ℕ → Bool)
    → ((a y : ℕ) → a < i → g a y ≡ h a y) → (x : ℕ) → denotes W c g x ≡ denotes W c h x
denotes_same W i Nothing l g h e x = refl
denotes_same W i Everything l g h e x = refl
denotes_same W i (Name n) l g h e x = refl
denotes_same W i (Not a) l g h e x = ap not (e a x l)
denotes_same W i (And a b) l g h e x = ap (λ v. v && g b x) (e a x l.0) ∙ ap (λ v. h a x && v) (e b x l.1)
denotes_same W i (Or a b) l g h e x = ap (λ v. v || g b x) (e a x l.0) ∙ ap (λ v. h a x || v) (e b x l.1)
denotes_same W i (Restriction q r a) l g h e x = restricts W q r a g h (λ y. e a y l) x

-- two depths above i agree
deep_same : (W : Interpretation) (concept : ℕ → Concept) → ((i : ℕ) → Lower i (concept i))
    → (j k i x : ℕ) → i < j → i < k → deep W concept j i x ≡ deep W concept k i x
unfolding deep
deep_same W concept low zero k i x p q = absurd (omega arith)
deep_same W concept low (suc j) zero i x p q = absurd (omega arith)
deep_same W concept low (suc j) (suc k) i x p q =
    denotes_same W i (concept i) (low i) (deep W concept j) (deep W concept k)
    (λ a y l. deep_same W concept low j k a y (omega arith) (omega arith)) x

pub entries_mean : EntriesMean
unfolding deep holds
entries_mean W concept low i x =
    denotes_same W i (concept i) (low i) (deep W concept i) (holds W concept)
    (λ a y l. deep_same W concept low i (suc a) a y (omega arith) (omega arith)) x
