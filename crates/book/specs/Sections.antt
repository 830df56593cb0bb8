-- The four sections of a book, as bytes, and what their records say.
use Rattle.std.specs.Prelude.{ℕ, ◌+◌, ◌*◌, ◌/◌, List, length, Some, None, Option, slice_index}
use Rattle.meaning.specs.declared.Concept.{Concept}
use Rattle.meaning.specs.declared.Concept.TheVariants.{Nothing, Everything, Name, Not, And, Or, Restriction}
use Rattle.meaning.specs.declared.Quantifier.TheVariants.{Exists, Forall, NoneOf}
use Rattle.meaning.specs.declared.Rule.{Rule}
use Rattle.meaning.specs.Books.{Book}
use Rattle.book.specs.declared.kind.Kind.{Kind}
use Rattle.book.specs.declared.kind.Kind.TheVariants as kind
use Rattle.book.specs.Kinds.{kind_of}

pub record Sections : Type 0 where
  pub roles : List ℕ
  pub pairs : List ℕ
  pub concepts : List ℕ
  pub rules : List ℕ

-- the concept of a record: its kind, then its operands; a record of no kind is nothing
abbrev pub decode : Option Kind → ℕ → ℕ → Concept
decode (Some kind.Nothing) b c = Nothing
decode (Some kind.Everything) b c = Everything
decode (Some kind.Name) b c = Name b
decode (Some kind.Not) b c = Not b
decode (Some kind.And) b c = And b c
decode (Some kind.Or) b c = Or b c
decode (Some kind.Exists) b c = Restriction Exists b c
decode (Some kind.Forall) b c = Restriction Forall b c
decode (Some kind.NoneOf) b c = Restriction NoneOf b c
decode None b c = Nothing

-- entry i, four bytes a record; past the last entry all bytes are 0, so it is nothing
abbrev pub concept_at : List ℕ → ℕ → Concept
concept_at concepts i = decode (kind_of (slice_index concepts (4 * i))) (slice_index concepts (4 * i + 1)) (slice_index concepts (4 * i + 2))

-- rule k, two bytes a record
abbrev pub rule_at : List ℕ → ℕ → Rule
rule_at rules k = record { premise = slice_index rules (2 * k); conclusion = slice_index rules (2 * k + 1) }

abbrev pub says : Sections → Book
says s = record {
  roles = length s.roles;
  entries = length s.concepts / 4;
  concept = concept_at s.concepts;
  rules = length s.rules / 2;
  rule = rule_at s.rules;
}
