-- What the working entries mean in a world: each entry what it says over its parts.
use Rattle.std.proofs.Common.{◌≡◌, ℕ, zero, suc, ◌+◌, ◌<◌, Bool, false, not, ◌||◌, ap, ◌∙◌, arith}
use Rattle.meaning.specs.Bounded.{all}
use Rattle.meaning.specs.Worlds.{Interpretation, denotes}
use Rattle.meaning.proofs.Meanings.{denotes_same, all_same}
use Rattle.tableau.specs.declared.Entry.{Entry}
use Rattle.tableau.specs.declared.Entry.TheVariants.{Plain, Inclusion, Inclusions}
use Rattle.tableau.specs.Entries.{LowerEntry}

-- is x in the working entry, where `h a y` says whether y is in entry a
abbrev pub means : Interpretation → Entry → (ℕ → ℕ → Bool) → ℕ → Bool
means W (Plain c) h x = denotes W c h x
means W (Inclusion c d) h x = not (h c x) || h d x
means W (Inclusions lo n) h x = all n (λ k. h (lo + k) x)

-- `h` is the meaning of the working entries in the world: each entry means what it says over the others
abbrev pub Meaning : Interpretation → (ℕ → Entry) → (ℕ → ℕ → Bool) → Type 0
Meaning W entry h = (i x : ℕ) → h i x ≡ means W (entry i) h x

-- the same down to a depth, and deep enough
unfoldable pub deep_entry : Interpretation → (ℕ → Entry) → ℕ → ℕ → ℕ → Bool
deep_entry W entry zero i x = false
deep_entry W entry (suc k) i x = means W (entry i) (deep_entry W entry k) x

unfoldable pub holds_entry : Interpretation → (ℕ → Entry) → ℕ → ℕ → Bool
holds_entry W entry i x = deep_entry W entry (suc i) i x

-- an entry's meaning depends on its parts alone
pub means_same : (W : Interpretation) (i : ℕ) (e : Entry) → LowerEntry i e → (g h : ℕ → ℕ → Bool) → ((a y : ℕ) → a < i → g a y ≡ h a y)
    → (x : ℕ) → means W e g x ≡ means W e h x
means_same W i (Plain c) l g h e x = denotes_same W i c l g h e x
means_same W i (Inclusion c d) l g h e x = ap (λ b. not b || g d x) (e c x l.0) ∙ ap (λ b. not (h c x) || b) (e d x l.1)
means_same W i (Inclusions lo n) l g h e x = all_same n _ _ (λ k h. e (lo + k) x (omega arith))

-- every depth that is deep enough gives the same
deep_same : (W : Interpretation) (entry : ℕ → Entry) → ((i : ℕ) → LowerEntry i (entry i))
    → (j k i x : ℕ) → i < j → i < k → deep_entry W entry j i x ≡ deep_entry W entry k i x
unfolding deep_entry
deep_same W entry low zero k i x p q = absurd (omega arith)
deep_same W entry low (suc j) zero i x p q = absurd (omega arith)
deep_same W entry low (suc j) (suc k) i x p q =
    means_same W i (entry i) (low i) (deep_entry W entry j) (deep_entry W entry k)
    (λ a y l. deep_same W entry low j k a y (omega arith) (omega arith)) x

-- so the own depth of an entry gives what it says over its parts
pub entries_mean : (W : Interpretation) (entry : ℕ → Entry) → ((i : ℕ) → LowerEntry i (entry i)) → Meaning W entry (holds_entry W entry)
unfolding deep_entry holds_entry
entries_mean W entry low i x =
    means_same W i (entry i) (low i) (deep_entry W entry i) (holds_entry W entry)
    (λ a y l. deep_same W entry low i (suc a) a y (omega arith) (omega arith)) x
