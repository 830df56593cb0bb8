-- Doing something for each number below a bound, from 0 up.
use Rattle.std.specs.Prelude.{ℕ, zero, suc, List, [], ◌++◌}

unfoldable pub fold : {A : Type 0} → ℕ → (ℕ → A → A) → A → A
fold zero f a = a
fold (suc n) f a = f n (fold n f a)

-- the lists of each number, one after another
unfoldable pub gather : {A : Type 0} → ℕ → (ℕ → List A) → List A
gather zero f = []
gather (suc n) f = gather n f ++ f n
