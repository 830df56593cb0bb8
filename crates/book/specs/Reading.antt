-- Reading a book: its sections, or the first refusal.
use Rattle.std.specs.Prelude.{ℕ, ◌+◌, ◌*◌, ◌/◌, List, length, take, drop}
use Rattle.denial.specs.declared.RecordDenial.TheVariants.{Role, Pair, Concept, Rule}
use Rattle.denial.specs.Denials.{Answer, granted, record_report, and_then}
use Rattle.book.specs.declared.trailer.Layout.{Layout}
use Rattle.book.specs.Sections.{Sections}
use Rattle.book.specs.Records.{lowest_bad_role, lowest_unfit, lowest_bad_concept}
use Rattle.book.specs.Layouts.{laying, unless_bad}

-- so many bytes from a place on
abbrev pub cut : List ℕ → ℕ → ℕ → List ℕ
cut bytes place size = take size (drop place bytes)

abbrev pub sections_of : List ℕ → Layout → Sections
sections_of bytes l = record {
  roles = cut bytes l.roles.place l.roles.count;
  pairs = cut bytes l.pairs.place (2 * l.pairs.count);
  concepts = cut bytes l.concepts.place (4 * l.concepts.count);
  rules = cut bytes l.rules.place (2 * l.rules.count);
}

-- the sections, or the first bad record: roles, then pairs, then concepts, then rules; the detail is its first byte
unfoldable pub checking : Layout → Sections → Answer Sections
checking l s =
    unless_bad (lowest_bad_role s.roles) (λ k. record_report (Role (l.roles.place + k)))
    (unless_bad (lowest_unfit (length s.roles) s.pairs) (λ k. record_report (Pair (l.pairs.place + 2 * k)))
    (unless_bad (lowest_bad_concept (length s.roles) s.concepts) (λ k. record_report (Concept (l.concepts.place + 4 * k)))
    (unless_bad (lowest_unfit (length s.concepts / 4) s.rules) (λ k. record_report (Rule (l.rules.place + 2 * k)))
    (granted s))))

-- the book in the bytes, or the first refusal; what the trailer's layer refuses is handed on whole
unfoldable pub reading : List ℕ → Answer Sections
reading bytes = and_then (laying bytes) (λ l. checking l (sections_of bytes l))
