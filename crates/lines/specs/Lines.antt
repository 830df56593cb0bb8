-- The lines that answer calls, byte by byte.
use Rattle.std.specs.Prelude.{ℕ, Bool, true, false, List, ◌++◌, codes}
use Rattle.denial.specs.Denials.{text_of_report}
use Rattle.denial.specs.declared.Report.{Report}

-- "denied", the number, the detail and the layer of a refusal
abbrev pub line_of_denial : Report → List ℕ
line_of_denial r = text_of_report r ++ codes "\n"

abbrev pub yes_line : Bool → List ℕ
yes_line true = codes "yes\n"
yes_line false = codes "no\n"
