-- The relation of two entries of a book, by the calls of a register, and the number that a host gets for it.
use Rattle.std.specs.Prelude.{ℕ, ◌+◌, Bool, true, false, List, []}
use Rattle.denial.specs.declared.Report.{Report}
use Rattle.denial.specs.declared.Layer.TheVariants.{Register}
use Rattle.denial.specs.Denials.{Answer, granted, denied, reported, and_then}
use Rattle.book.specs.Sections.{says}
use Rattle.book.specs.Reading.{reading}
use Rattle.roles.specs.Hierarchies.{roles_of}
use Rattle.plan.specs.Building.{verdict}
use Rattle.runs.specs.Setups.{Setup, setup}
use Rattle.runs.specs.Steps.{file, ask, Reply, class, said, shown, refused, step}
use Rattle.host.specs.declared.relation.Relation.{Relation}
use Rattle.host.specs.declared.relation.Relation.TheVariants.{Equal, Below, Above, Apart}

-- the number of a relation
abbrev pub relation_number : Relation → ℕ
relation_number Equal = 0
relation_number Below = 1
relation_number Above = 2
relation_number Apart = 3

-- the relation by two answers: whether all of the first class is in the second, and whether all of the second is in the first
abbrev pub related_by : Bool → Bool → Relation
related_by true true = Equal
related_by true false = Below
related_by false true = Above
related_by false false = Apart

-- a report with a number that no refusal has
abbrev pub never : Report
never = reported 0 0 Register

-- the class number that a filing gave, or its refusal; it has no other reply
abbrev pub given : Reply → Answer ℕ
given (class p) = granted p
given (said b) = denied never
given (shown m side) = denied never
given (refused r) = denied r

-- what an ask said, or its refusal; it has no other reply
abbrev pub told : Reply → Answer Bool
told (class p) = denied never
told (said b) = granted b
told (shown m side) = denied never
told (refused r) = denied r

-- The relation of the classes p and q of a register whose classes stand by the entries cs: ask whether all of p is in q, and
-- then the reverse, each in n nodes.
unfoldable pub compared_by : Setup → List ℕ → ℕ → ℕ → ℕ → Answer Relation
compared_by S cs n p q =
    and_then (told (step S cs (ask p q n)).reply)
    (λ within. and_then (told (step S cs (ask q p n)).reply)
    (λ around. granted (related_by within around)))

-- The relation of two entries: file the first, and then the second, each in n nodes, and compare the classes given.
unfoldable pub filed_by : Setup → List ℕ → ℕ → ℕ → ℕ → Answer Relation
filed_by S cs n first second =
    let one = step S cs (file first n) in
    let two = step S one.classes (file second n) in
    and_then (given one.reply) (λ p. and_then (given two.reply) (λ q. compared_by S two.classes n p q))

-- The relation of two entries of the book in the bytes, by a fresh register on the book under its own hierarchy, each call in
-- n nodes; or the first refusal, of reading, opening, filing the first entry, filing the second, the one ask and the other.
unfoldable pub relating : ℕ → List ℕ → ℕ → ℕ → Answer Relation
relating n bytes first second =
    and_then (reading bytes)
    (λ s. and_then (verdict (roles_of s) (says s))
    (λ opened. filed_by (setup (roles_of s) (says s)) [] n first second))

-- the number of the relation, or 100 and the number of the refusal
abbrev pub host_number : Answer Relation → ℕ
host_number (granted x) = relation_number x
host_number (denied r) = 100 + r.number

abbrev pub relation_in : ℕ → List ℕ → ℕ → ℕ → ℕ
relation_in n bytes first second = host_number (relating n bytes first second)

-- how many nodes the host's call has
abbrev pub nodes_lent : ℕ
nodes_lent = 200

abbrev pub relation_of : List ℕ → ℕ → ℕ → ℕ
relation_of bytes first second = relation_in nodes_lent bytes first second
