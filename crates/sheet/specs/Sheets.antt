-- A sheet: a world written as 64-bit words, for a number of roles.
-- Word 0 is the number m of individuals. Bit x of word 1 + n: the individual x bears the name n, of 64 names.
-- Bit y of word 65 + r * m + x: the role r joins x to y. Bits at m and above are 0; words past the last row are ignored.
use Rattle.std.specs.Prelude.{ℕ, ◌+◌, ◌*◌, ◌^◌, min, max, Bool, cond, not, ◌&&◌, List, length, Some, None, Option, nat_lt, slice_index}
use Rattle.std.proofs.Common.{arith}
use Rattle.words.specs.Sets.{has}
use Rattle.denial.specs.Denials.{Answer, granted, denied, denial_report}
use Rattle.denial.specs.declared.Denial.TheVariants.{Sheet}
use Rattle.meaning.specs.Bounded.{first}
use Rattle.meaning.specs.Worlds.{Interpretation, Sized}

-- how many words a sheet of m individuals has to have
abbrev pub needed : ℕ → ℕ → ℕ
needed roles m = 65 + roles * m

-- the word has a bit at m or above
abbrev pub strays : ℕ → ℕ → Bool
strays m w = not (nat_lt w (2 ^ m))

-- the first of the words after word 0 that has such a bit, counted from 0
abbrev pub lowest_stray : ℕ → List ℕ → Option ℕ
lowest_stray roles words = first (64 + roles * slice_index words 0) (λ k. strays (slice_index words 0) (slice_index words (k + 1)))

abbrev pub refused : ℕ → Answer (List ℕ)
refused detail = denied (denial_report (Sheet detail))

abbrev pub unless_stray : List ℕ → Option ℕ → Answer (List ℕ)
unless_stray words None = granted words
unless_stray words (Some k) = refused (k + 1)

-- Making a sheet: the number of individuals is looked at first (word 0 of no words reads as 0), then the length, then
-- the words.
abbrev pub sheet_of : ℕ → List ℕ → Answer (List ℕ)
sheet_of roles words =
    cond (not (nat_lt 0 (slice_index words 0) && nat_lt (slice_index words 0) 65)) (refused 0)
    (cond (nat_lt (length words) (needed roles (slice_index words 0))) (refused (length words))
    (unless_stray words (lowest_stray roles words)))

-- the world of m individuals that the words write
abbrev pub written : ℕ → ℕ → List ℕ → Interpretation
written roles m words = record {
  size = m;
  bears = λ x n. nat_lt n 64 && has (slice_index words (1 + n)) x;
  joins = λ r x y. nat_lt r roles && (nat_lt x m && has (slice_index words (65 + r * m + x)) y);
}

-- a number held within 1 to 64; it changes no sheet that was granted
abbrev pub held : ℕ → ℕ
held m = max 1 (min m 64)

abbrev pub sheet_world : ℕ → List ℕ → Interpretation
sheet_world roles words = written roles (held (slice_index words 0)) words

pub held_sized : (roles : ℕ) (words : List ℕ) → Sized (sheet_world roles words)
held_sized roles words = record { some = omega arith; few = omega arith }
