-- What a world makes of an entry of a book.
use Rattle.std.specs.Prelude.{ℕ, ◌^◌, ◌<◌, cond, List, nat_lt, slice_index}
use Rattle.words.specs.Sets.{set_of}
use Rattle.denial.specs.Denials.{Answer, granted, denied, denial_report}
use Rattle.denial.specs.declared.Denial.TheVariants.{Entry}
use Rattle.meaning.specs.Worlds.{Interpretation, holds}
use Rattle.meaning.specs.declared.Concept.{Concept}
use Rattle.meaning.specs.declared.Concept.TheVariants.{Nothing, Everything, Name, Not, And, Or, Restriction}
use Rattle.meaning.specs.Books.{Book}

-- the set of the individuals in entry i, where the book has such an entry
abbrev pub judged : Interpretation → Book → ℕ → Answer ℕ
judged W B i = cond (nat_lt i B.entries) (granted (set_of W.size (holds W B.concept i))) (denied (denial_report (Entry i)))

-- a name that a world can be asked for
abbrev pub Asked : Concept → Type 0
Asked Nothing = Unit {0}
Asked Everything = Unit {0}
Asked (Name n) = n < 64
Asked (Not a) = Unit {0}
Asked (And a b) = Unit {0}
Asked (Or a b) = Unit {0}
Asked (Restriction q r a) = Unit {0}

-- each word is a set of numbers below m
abbrev pub Inside : ℕ → List ℕ → Type 0
Inside m sets = (a : ℕ) → slice_index sets a < 2 ^ m
