-- What a result comes to.
use Rattle.std.proofs.Common.{◌≡◌, ℕ, List, Ok, Err, Result, inl, subst}
use Rattle.std.specs.declared.alloc.Global.{Global}
use Rattle.std.specs.Prelude.{String}
use Rattle.script.specs.declared.failure.Failure.{Failure}
use Rattle.script.specs.declared.failure.Failure.TheVariants.{BadLine, Denied, OutOfMemory}
use Rattle.std.specs.Str.{IsUtf8, trim}
use Rattle.grammar.specs.Spelling.{Spells}
use Rattle.grammar.specs.declared.Call.{Call}
use Rattle.script.specs.Outcomes.{Outcome, ComesTo}
use Rattle.script.specs.Sessions.{Held, turn, CallComes, LineComes}

-- a result comes to what a weaker fact holds of
pub comes_weaker : (r : Result (String Global) Failure) (P Q : Outcome → Type 0) → ((o : Outcome) → P o → Q o) → ComesTo r P → ComesTo r Q
comes_weaker (Ok s) P Q weaker h = weaker _ h
comes_weaker (Err BadLine) P Q weaker h = weaker _ h
comes_weaker (Err (Denied r)) P Q weaker h = weaker _ h
comes_weaker (Err (OutOfMemory e)) P Q weaker h = tt

-- a line that spells a call comes to what the call comes to
pub line_is_call : (line text : List ℕ) (call : Call) (old new : Held) (r : Result (String Global) Failure) → text ≡ line → IsUtf8 line → Spells (trim text) call
    → ComesTo r (λ o. CallComes call old (turn o new)) → ComesTo r (λ o. LineComes line old (turn o new))
line_is_call line text call old new r same utf8 spelt =
    comes_weaker r (λ o. CallComes call old (turn o new)) (λ o. LineComes line old (turn o new)) (λ o h. inl (call, (utf8, subst (λ (t : List ℕ). Spells (trim t) call) same spelt), h))
