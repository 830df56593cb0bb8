-- The reflexive and transitive closure of told role inclusions.
use Rattle.std.specs.Prelude.{◌≡◌, ℕ, ◌<◌, Bool, ◌&&◌, ◌||◌, ◌⊎◌, List, Decides, ◌==◌, nat_lt}
use Rattle.meaning.specs.Chains.{Chain, reach}
use Rattle.roles.specs.Told.{told, Inside}

-- r and s are roles below n, and equal, or a chain of told inclusions leads from r to s
unfoldable pub closure : ℕ → List ℕ → ℕ → ℕ → Bool
closure n pairs r s = nat_lt r n && (nat_lt s n && (r == s || reach n (told pairs) r s))

-- r and s are equal, or a chain of told inclusions leads from r to s
abbrev pub Leads : List ℕ → ℕ → ℕ → Type 0
Leads pairs r s = (r ≡ s) ⊎ Chain (told pairs) r s

-- the same in words: the roles below n, ordered by the told inclusions
abbrev pub Below : ℕ → List ℕ → ℕ → ℕ → Type 0
Below n pairs r s = (r < n) × (s < n) × Leads pairs r s

-- for pairs of roles the test decides
abbrev pub ClosureDecides : Type 0
ClosureDecides = (n : ℕ) (pairs : List ℕ) → Inside n pairs → (r s : ℕ) → Decides (closure n pairs r s) (Below n pairs r s)
