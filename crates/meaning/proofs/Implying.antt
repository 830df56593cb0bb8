-- "If x then y" as a test.
use Rattle.std.proofs.Common.{◌≡◌, Bool, true, false, not, ◌||◌, refl}
use Rattle.std.proofs.lemmas.Bool.{both_ways}

pub implied : (x y : Bool) → (not x || y) ≡ true → x ≡ true → y ≡ true
implied true y e h = e
implied false y e h = absurd (both_ways false refl h)

pub implies : (x y : Bool) → (x ≡ true → y ≡ true) → (not x || y) ≡ true
implies true y f = f refl
implies false y f = refl
