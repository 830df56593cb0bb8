-- A world written down as a sheet, word by word.
use Rattle.std.specs.Prelude.{◌≡◌, ℕ, zero, suc, ◌-◌, ◌/◌, ◌%◌, true, cond, List, [], ◌∷◌, ◌++◌, length, drop, ◌==◌, nat_le, nat_lt, slice_index_or}
use Rattle.words.specs.Sets.{set_of}
use Rattle.denial.specs.Denials.{Answer, granted, denied, denial_report}
use Rattle.denial.specs.declared.Denial.TheVariants.{ShortSheet}
use Rattle.meaning.specs.Worlds.{Interpretation, Sized}
use Rattle.meaning.specs.Agreement.{Agree}
use Rattle.sheet.specs.Sheets.{needed, sheet_of, written}

-- Word k: the number m of individuals; then for each of the 64 names its bearers; then, a role after another and of each
-- the individuals in their order, those that the role joins the individual to.
unfoldable pub word_at : Interpretation → ℕ → ℕ
word_at W k =
    cond (k == 0) W.size
    (cond (nat_lt k 65) (set_of W.size (λ x. W.bears x (k - 1)))
    (set_of W.size (λ y. W.joins ((k - 65) / W.size) ((k - 65) % W.size) y)))

-- the first n words
unfoldable pub words_of : Interpretation → ℕ → List ℕ
words_of W zero = []
words_of W (suc n) = words_of W n ++ word_at W n ∷ []

-- The words after the world was written over them, with so many roles: those past what it needs stay as they were, and all
-- of them where they are too few.
unfoldable pub drawn_on : ℕ → Interpretation → List ℕ → List ℕ
drawn_on roles W words =
    cond (nat_le (needed roles W.size) (length words)) (words_of W (needed roles W.size) ++ drop (needed roles W.size) words) words

-- how many individuals were written; refused with the number of words needed where they are too few
abbrev pub drawing : ℕ → Interpretation → ℕ → Answer ℕ
drawing roles W lent = cond (nat_le (needed roles W.size) lent) (granted W.size) (denied (denial_report (ShortSheet (needed roles W.size))))

-- What was written is a good sheet, of as many individuals, and the world on it agrees with the one that was to be written.
pub record Drawn (roles : ℕ) (W : Interpretation) (words : List ℕ) : Type 0 where
  pub many : slice_index_or words 0 0 ≡ W.size
  pub good : sheet_of roles words ≡ granted words
  pub agrees : Agree roles (written roles W.size words) W

-- where the words suffice, a world of 1 to 64 individuals is so written
abbrev pub DrawingIsRight : Type 0
DrawingIsRight = (roles : ℕ) (W : Interpretation) → Sized W → (words : List ℕ) → (nat_le (needed roles W.size) (length words) ≡ true)
    → Drawn roles W (drawn_on roles W words)

-- worlds that agree are written alike
abbrev pub DrawnAlike : Type 0
DrawnAlike = (roles : ℕ) (W V : Interpretation) → Sized W → Agree roles W V → (words : List ℕ) → drawn_on roles W words ≡ drawn_on roles V words
