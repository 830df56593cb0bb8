-- Rows of sets, each a word, and what the code does to them.
use Rattle.std.specs.Prelude.{◌≡◌, ℕ, ◌<◌, Bool, cond, ◌&&◌, List, bit_or, slice_index}
use Rattle.words.specs.Sets.{has, set_of}
use Rattle.meaning.specs.Chains.{reach}

-- row x is the set of the numbers below m to which R relates x
abbrev pub RowsOf : ℕ → (ℕ → ℕ → Bool) → List ℕ → Type 0
RowsOf m R rows = (x : ℕ) → x < m → slice_index rows x ≡ set_of m (R x)

-- the row, with the row of k joined to it where k is in it
abbrev pub by_way_of : ℕ → ℕ → ℕ → ℕ
by_way_of k middle row = cond (has row k) (bit_or row middle) row

-- chains of steps of R, where `passes` says that it has any
abbrev pub chains_of : Bool → ℕ → (ℕ → ℕ → Bool) → ℕ → ℕ → Bool
chains_of passes m R x y = passes && reach m R x y

-- what is joined to a row: the row of edges where the role is their own, the row of chains where the role is above theirs
abbrev pub share_of : Bool → Bool → ℕ → ℕ → ℕ
share_of own above edges chains = bit_or (cond own edges 0) (cond above chains 0)
