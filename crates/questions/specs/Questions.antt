-- What the calls of a script answer, from the sections of the book and the words of the sheet.
use Rattle.std.specs.Prelude.{◌≡◌, ℕ, Bool, true, false, cond, List, [], ◌++◌, length, codes, Result, nat_lt, slice_index}
use Rattle.denial.specs.Denials.{Answer, granted, denied, answer, and_then, reported, denial_report}
use Rattle.denial.specs.declared.Denial.{Denial}
use Rattle.denial.specs.declared.Layer.TheVariants.{Register}
use Rattle.meaning.specs.Worlds.{Interpretation}
use Rattle.meaning.specs.Universal.{universal_under, universal_passing}
use Rattle.book.specs.Sections.{Sections, says}
use Rattle.roles.specs.Told.{marked}
use Rattle.roles.specs.Closure.{closure}
use Rattle.roles.specs.Hierarchies.{roles_of}
use Rattle.sheet.specs.Sheets.{sheet_of, written}
use Rattle.sheet.specs.Judgements.{judged}
use Rattle.sheet.specs.Keeping.{KeepsAnswer}
use Rattle.questions.specs.declared.Base.{Base}
use Rattle.questions.specs.declared.Base.TheVariants.{Closed, Told}
use Rattle.questions.specs.declared.Source.{Source}
use Rattle.questions.specs.declared.Question.{Question}
use Rattle.questions.specs.declared.Question.TheVariants.{Below, Transitive}

-- how a script names the hierarchies of a book
abbrev pub name_of_base : Base → List ℕ
name_of_base Closed = codes "closed"
name_of_base Told = codes "told"

abbrev pub name_of_source : Source → List ℕ
name_of_source h = name_of_base h.base ++ cond h.universal (codes "+universal") []

-- an answer over n roles and one more, refused where there is no number for that one
abbrev pub over_all : ℕ → Bool → Answer Bool
over_all n b = cond (nat_lt n 64) (granted b) (denied (reported 12 n Register))

-- what a hierarchy with the order u and the transitive roles p answers
abbrev pub answer_of : Question → (ℕ → ℕ → Bool) → (ℕ → Bool) → Bool
answer_of (Below r t) u p = u r t
answer_of (Transitive r) u p = p r

-- the same, where there may be a universal role over it
abbrev pub answer_over : Bool → Question → ℕ → (ℕ → ℕ → Bool) → (ℕ → Bool) → Answer Bool
answer_over false q n u p = granted (answer_of q u p)
answer_over true q n u p = over_all n (answer_of q (universal_under n u) (universal_passing n p))

-- closure rows and told pairs answer alike
abbrev pub answer_from : Source → Question → Sections → Answer Bool
answer_from h q s = answer_over h.universal q (length s.roles) (closure (length s.roles) s.pairs) (marked s.roles)

-- is r below t
abbrev pub below_of : Source → Sections → ℕ → ℕ → Answer Bool
below_of h s r t = answer_from h (Below r t) s

-- is r transitive
abbrev pub transitive_of : Source → Sections → ℕ → Answer Bool
transitive_of h s r = answer_from h (Transitive r) s

-- the world on a sheet for the book, where the sheet is a good one
abbrev pub answer_on_sheet : {A : Type 0} → Sections → List ℕ → (Interpretation → Answer A) → Answer A
answer_on_sheet s words f = and_then (sheet_of (length s.roles) words) (λ ws. f (written (length s.roles) (slice_index ws 0) ws))

-- how many individuals are on the sheet
abbrev pub individuals_of : Sections → List ℕ → Answer ℕ
individuals_of s words = answer_on_sheet s words (λ W. granted W.size)

-- which of them are in entry i
abbrev pub judged_of : Sections → List ℕ → ℕ → Answer ℕ
judged_of s words i = answer_on_sheet s words (λ W. judged W (says s) i)

-- whether the world on the sheet keeps the book under its hierarchy, or the refusal of the sheet
abbrev pub KeptAfter : Answer (List ℕ) → Sections → Result Bool Denial → Type 0
KeptAfter (granted ws) s r = KeepsAnswer (roles_of s) (says s) (written (length s.roles) (slice_index ws 0) ws) r
KeptAfter (denied d) s r = answer (λ b. b) denial_report r ≡ denied d

abbrev pub Kept : Sections → List ℕ → Result Bool Denial → Type 0
Kept s words r = KeptAfter (sheet_of (length s.roles) words) s r
