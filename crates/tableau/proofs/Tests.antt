-- Small facts of tests, and of equations that cannot be.
use Rattle.std.proofs.Common.{◌≡◌, ℕ, Bool, true, false, cond, not, ◌&&◌, sym, refl, ap, subst, arith}
use Rattle.std.proofs.lemmas.Bool.{both_ways, cond-true, cond-false}

-- anything follows where two constructors are said to be equal: `never cc`
pub never : {A : Type 0} → ◌≡◌ {A = ℕ} 0 1 → A
never e = absurd (omega arith)

-- "not both", used and made
pub excluded : (x y : Bool) → (x && y) ≡ false → x ≡ true → y ≡ false
excluded true y e h = e
excluded false y e h = absurd (both_ways false refl h)

pub excludes : (x y : Bool) → (x ≡ true → y ≡ false) → (x && y) ≡ false
excludes true y f = f refl
excludes false y f = refl

-- what is no part's sign is the other's
pub not_sign : (b s : Bool) → not b ≡ s → b ≡ not s
not_sign true s e = ap not e
not_sign false s e = ap not e

-- the first way of a test that holds, and the second of one that fails
pub first_way : {A : Type 0} (P : A → Type 0) (b : Bool) (x y : A) → b ≡ true → P x → P (cond b x y)
first_way P b x y e p = subst P (sym (cond-true b x y e)) p

pub second_way : {A : Type 0} (P : A → Type 0) (b : Bool) (x y : A) → b ≡ false → P y → P (cond b x y)
second_way P b x y e p = subst P (sym (cond-false b x y e)) p
