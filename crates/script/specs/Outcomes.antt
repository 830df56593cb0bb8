-- What a line of a script comes to, and how the code's results say it.
use Rattle.std.specs.Prelude.{ℕ, List, Some, None, Option, Ok, Err, Result, String, string_bytes}
use Rattle.std.specs.declared.alloc.Global.{Global}
use Rattle.denial.specs.Denials.{Answer, granted, denied}
use Rattle.lines.specs.Lines.{line_of_denial}
use Rattle.script.specs.Lines.{bad_line}
use Rattle.script.specs.declared.failure.Failure.{Failure}
use Rattle.script.specs.declared.failure.Failure.TheVariants.{BadLine, Denied, OutOfMemory}

-- it is no call, or it is one, which is granted its text or denied
pub data Outcome : Type 0 where
  no_call : Outcome
  called : Answer (List ℕ) → Outcome

-- what is printed for it, where the line has the number
abbrev pub text_of : ℕ → Outcome → List ℕ
text_of number no_call = bad_line number
text_of number (called (granted text)) = text
text_of number (called (denied r)) = line_of_denial r

-- the result comes to an outcome of which P holds; where memory ended nothing is said
abbrev pub ComesTo : Result (String Global) Failure → (Outcome → Type 0) → Type 0
ComesTo (Ok s) P = P (called (granted (string_bytes s)))
ComesTo (Err BadLine) P = P no_call
ComesTo (Err (Denied r)) P = P (called (denied r))
ComesTo (Err (OutOfMemory e)) P = Unit {0}

-- the result is what was read from a text, where `view` says what the value holds; where memory ended nothing is said
abbrev pub Gives : {T A : Type 0} → (T → A) → Result T Failure → (Option A → Type 0) → Type 0
Gives view (Ok x) P = P (Some (view x))
Gives view (Err BadLine) P = P None
Gives view (Err (Denied r)) P = ⊥
Gives view (Err (OutOfMemory e)) P = Unit {0}
