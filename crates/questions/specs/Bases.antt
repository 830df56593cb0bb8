-- The hierarchy of a book that a base names.
use Rattle.std.specs.Prelude.{◌≡◌, ℕ, ◌<◌, Bool, true, length}
use Rattle.words.specs.Sets.{has}
use Rattle.meaning.specs.Orders.{Lawful}
use Rattle.roles.specs.Told.{marked}
use Rattle.roles.specs.Closure.{closure}
use Rattle.roles.specs.Rows.{related}
use Rattle.roles.specs.Laws.{closure_law, marked_inside, lawful_known}
use Rattle.questions.specs.declared.Based.{Based}
use Rattle.questions.specs.declared.Based.TheVariants.{Closed, Told}

-- how many roles it has
abbrev pub count_in : Based → ℕ
count_in (Closed x) = x.count
count_in (Told x) = length x.roles.now

-- whether the first is below the second
abbrev pub under_in : Based → ℕ → ℕ → Bool
under_in (Closed x) = related x.rows
under_in (Told x) = closure (length x.roles.now) x.pairs.now

-- whether the role is transitive
abbrev pub passing_in : Based → ℕ → Bool
passing_in (Closed x) = has x.marks
passing_in (Told x) = marked x.roles.now

pub lawful_in : (x : Based) → Lawful (count_in x) (under_in x)
lawful_in (Closed x) = lawful_known x.count (related x.rows) x.law
lawful_in (Told x) = closure_law (length x.roles.now) x.pairs.now x.few

pub inside_in : (x : Based) (r : ℕ) → passing_in x r ≡ true → r < count_in x
inside_in (Closed x) = x.inside
inside_in (Told x) = marked_inside x.roles.now
