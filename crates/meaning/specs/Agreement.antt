-- Worlds that agree on what a book can speak of.
use Rattle.std.specs.Prelude.{◌≡◌, ℕ, ◌<◌, true}
use Rattle.meaning.specs.Worlds.{Interpretation, holds}
use Rattle.meaning.specs.Orders.{RoleBox}
use Rattle.meaning.specs.Books.{Book, Sound, Keeps}

-- The two worlds have the same individuals, who bear the same of the 64 names and are joined alike by the roles below n.
pub record Agree (n : ℕ) (W V : Interpretation) : Type 0 where
  pub size : W.size ≡ V.size
  pub bears : (x k : ℕ) → x < W.size → k < 64 → W.bears x k ≡ V.bears x k
  pub joins : (r x y : ℕ) → r < n → x < W.size → y < W.size → W.joins r x y ≡ V.joins r x y

-- the hierarchy speaks of the roles below its count alone
pub record Confined (H : RoleBox) : Type 0 where
  pub below_in : (r s : ℕ) → H.below r s ≡ true → (r < H.count) × (s < H.count)
  pub transitive_in : (r : ℕ) → H.transitive r ≡ true → r < H.count

-- Worlds that agree on the roles of a sound book have the same individuals in its entries, and keep it under the same
-- hierarchies of its roles.
pub record Alike (K : Book) (W V : Interpretation) : Type 0 where
  pub members : (i x : ℕ) → i < K.entries → x < W.size → holds W K.concept i x ≡ holds V K.concept i x
  pub keeping : (H : RoleBox) → Confined H → H.count ≡ K.roles → Keeps H K W → Keeps H K V

abbrev pub AgreeingWorlds : Type 0
AgreeingWorlds = (K : Book) → Sound K → (W V : Interpretation) → Agree K.roles W V → Alike K W V
