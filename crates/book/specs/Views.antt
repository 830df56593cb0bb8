-- What the code's book holds, and what the sections lent to it do.
use Rattle.std.specs.Prelude.{ℕ, ◌*◌, List, take}
use Rattle.book.specs.declared.Book.{Book}
use Rattle.book.specs.declared.Lent.{Lent}
use Rattle.book.specs.Sections.{Sections}

abbrev pub sections : List ℕ → List ℕ → List ℕ → List ℕ → Sections
sections roles pairs concepts rules = record { roles = roles; pairs = pairs; concepts = concepts; rules = rules }

abbrev pub view : Book → Sections
view b =
    sections (take b.counts.roles b.roles) (take (2 * b.counts.pairs) b.pairs) (take (4 * b.counts.entries) b.concepts) (take (2 * b.counts.rules) b.rules)

abbrev pub held : Lent → Sections
held x = sections x.roles.now x.pairs.now x.concepts.now x.rules.now
