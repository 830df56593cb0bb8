-- The layout of a book by its trailer, and what is refused of it.
use Rattle.std.specs.Prelude.{◌≡◌, ℕ, ◌+◌, ◌-◌, ◌*◌, ◌≤◌, Bool, cond, ◌&&◌, ◌||◌, List, [], ◌∷◌, length, Some, None, Option, ◌==◌, nat_le, nat_lt, slice_index}
use Rattle.denial.specs.declared.Report.{Report}
use Rattle.denial.specs.declared.TrailerDenial.TheVariants.{Length, Count, Place}
use Rattle.denial.specs.Denials.{Answer, granted, denied, trailer_report}
use Rattle.meaning.specs.Bounded.{first}
use Rattle.book.specs.Limits.{most_roles, most_pairs, most_entries, most_rules}
use Rattle.book.specs.declared.trailer.Section.{Section}
use Rattle.book.specs.declared.trailer.Layout.{Layout}

-- where the trailer starts: it is the last 16 bytes
abbrev pub trailer_start : List ℕ → ℕ
trailer_start bytes = length bytes - 16

-- a 16-bit number, the low byte first
unfoldable pub number16 : List ℕ → ℕ → ℕ
number16 bytes at = slice_index bytes at + 256 * slice_index bytes (at + 1)

-- The sections are numbered 0 roles, 1 pairs, 2 concepts, 3 rules. The trailer has for each its place and its count.
unfoldable pub section_from : List ℕ → ℕ → Section
section_from bytes j = record {
  place = number16 bytes (trailer_start bytes + 4 * j);
  count = number16 bytes (trailer_start bytes + (4 * j + 2));
}

-- the least and the most records that a section may have, and the bytes of one
abbrev pub least : ℕ → ℕ
least j = slice_index (0 ∷ 0 ∷ 1 ∷ 0 ∷ []) j

abbrev pub most : ℕ → ℕ
most j = slice_index (most_roles ∷ most_pairs ∷ most_entries ∷ most_rules ∷ []) j

abbrev pub width : ℕ → ℕ
width j = slice_index (1 ∷ 2 ∷ 4 ∷ 2 ∷ []) j

-- where section j ends
abbrev pub end_of : List ℕ → ℕ → ℕ
end_of bytes j = (section_from bytes j).place + width j * (section_from bytes j).count

abbrev pub bad_count : List ℕ → ℕ → Bool
bad_count bytes j = nat_lt (section_from bytes j).count (least j) || nat_lt (most j) (section_from bytes j).count

-- a section starts before the one before it ends, or the rules run into the trailer
abbrev pub bad_place : List ℕ → ℕ → Bool
bad_place bytes j =
    nat_lt 0 j && nat_lt (section_from bytes j).place (end_of bytes (j - 1)) || j == 3 && nat_lt (trailer_start bytes) (end_of bytes j)

abbrev pub layout_of : List ℕ → Layout
layout_of bytes = record { roles = section_from bytes 0; pairs = section_from bytes 1; concepts = section_from bytes 2; rules = section_from bytes 3 }

-- refuses at the first bad one, if there is one
abbrev pub unless_bad : {A : Type 0} → Option ℕ → (ℕ → Report) → Answer A → Answer A
unless_bad None report rest = rest
unless_bad (Some k) report rest = denied (report k)

-- The layout, or the first refusal: the length, then the counts in their order, then the places in theirs. The detail of
-- a count or a place is the byte of its field.
unfoldable pub laying : List ℕ → Answer Layout
laying bytes =
    cond (nat_le 16 (length bytes) && nat_le (length bytes) 8192)
    (unless_bad (first 4 (bad_count bytes)) (λ j. trailer_report (Count (trailer_start bytes + 4 * j + 2)))
    (unless_bad (first 4 (bad_place bytes)) (λ j. trailer_report (Place (trailer_start bytes + 4 * j)))
    (granted (layout_of bytes))))
    (denied (trailer_report (Length (length bytes))))

-- what a layout that was granted is, in a book of so many bytes
pub record Laid (size : ℕ) (l : Layout) : Type 0 where
  pub short : size ≤ 8192
  pub few_roles : l.roles.count ≤ most_roles
  pub few_pairs : l.pairs.count ≤ most_pairs
  pub some_concepts : 1 ≤ l.concepts.count
  pub few_concepts : l.concepts.count ≤ most_entries
  pub few_rules : l.rules.count ≤ most_rules
  pub roles_end : l.roles.place + l.roles.count ≤ l.pairs.place
  pub pairs_end : l.pairs.place + 2 * l.pairs.count ≤ l.concepts.place
  pub concepts_end : l.concepts.place + 4 * l.concepts.count ≤ l.rules.place
  pub rules_end : l.rules.place + 2 * l.rules.count + 16 ≤ size

-- four sections of these lengths are those of a layout that was granted: each has as many bytes as its records take
pub record Whole (l : Layout) (roles pairs concepts rules : ℕ) : Type 0 where
  pub laid : Laid 8192 l
  pub roles_are : roles ≡ l.roles.count
  pub pairs_are : pairs ≡ 2 * l.pairs.count
  pub concepts_are : concepts ≡ 4 * l.concepts.count
  pub rules_are : rules ≡ 2 * l.rules.count
