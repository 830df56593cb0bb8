use Rattle.std.proofs.Common.{rules}
use Rattle.std.specs.Str.{trim}
use Rattle.grammar.proofs.GoesOn.{shows_too_much, relates_too_much, lists_too_much}
use Rattle.grammar.proofs.CallTryFromRefStr.try_from.Goals.{in-book, in-sheet+in_ok-number-in-sheet, in-read, in-parts, in-below+in_ok-parse-in-below+in_ok-number-in-below+in_ok-number-in-below-2, in-transitive+in_ok-parse-in-transitive+in_ok-number-in-transitive, in-judge+in_ok-number-in-judge, in-keeps+in_ok-parse-in-keeps, in-open+in_ok-parse-in-open, in-file+in_ok-number-in-file+in_ok-nodes-in-file, in-ask+in_ok-number-in-ask+in_ok-number-in-ask-2+in_ok-nodes-in-ask, in-show+in_ok-a-in-show+in_ok-b-in-show+in_ok-nodes-in-show+in_ok-number-in-show, in-c+in_ok-number-in-c+in_ok-number-in-c-2, in-classes}
use Rattle.grammar.proofs.CallTryFromRefStr.try_from.Goals as goal

pub returns-in_err-nodes-in-ask : goal.returns-in_err-nodes-in-ask
returns-in_err-nodes-in-ask c = search rules

pub returns-in_err-nodes-in-show : goal.returns-in_err-nodes-in-show
returns-in_err-nodes-in-show c = search rules

pub returns-then-is_empty : goal.returns-then-is_empty
returns-then-is_empty c = elim c.match-item.branch [
  | in-book w ↦ search rules
  | in-sheet+in_ok-number-in-sheet w ↦ search rules
  | in-read w ↦ search rules
  | in-parts w ↦ search rules
  | in-below+in_ok-parse-in-below+in_ok-number-in-below+in_ok-number-in-below-2 w ↦ search rules
  | in-transitive+in_ok-parse-in-transitive+in_ok-number-in-transitive w ↦ search rules
  | in-judge+in_ok-number-in-judge w ↦ search rules
  | in-keeps+in_ok-parse-in-keeps w ↦ search rules
  | in-open+in_ok-parse-in-open w ↦ search rules
  | in-file+in_ok-number-in-file+in_ok-nodes-in-file w ↦ search rules
  | in-ask+in_ok-number-in-ask+in_ok-number-in-ask-2+in_ok-nodes-in-ask w ↦ search rules
  | in-show+in_ok-a-in-show+in_ok-b-in-show+in_ok-nodes-in-show+in_ok-number-in-show w ↦ search rules
  | in-c+in_ok-number-in-c+in_ok-number-in-c-2 w ↦ search rules
  | in-classes w ↦ search rules
]

pub returns-else-is_empty : goal.returns-else-is_empty
returns-else-is_empty c = elim c.match-item.branch [
  | in-book w ↦ search rules
  | in-sheet+in_ok-number-in-sheet w ↦ search rules
  | in-read w ↦ search rules
  | in-parts w ↦ search rules
  | in-below+in_ok-parse-in-below+in_ok-number-in-below+in_ok-number-in-below-2 w ↦ search rules
  | in-transitive+in_ok-parse-in-transitive+in_ok-number-in-transitive w ↦ search rules
  | in-judge+in_ok-number-in-judge w ↦ search rules
  | in-keeps+in_ok-parse-in-keeps w ↦ search rules
  | in-open+in_ok-parse-in-open w ↦ search rules
  | in-file+in_ok-number-in-file+in_ok-nodes-in-file w ↦ search rules
  | in-ask+in_ok-number-in-ask+in_ok-number-in-ask-2+in_ok-nodes-in-ask w ↦ search rules
  | in-show+in_ok-a-in-show+in_ok-b-in-show+in_ok-nodes-in-show+in_ok-number-in-show w ↦ shows_too_much (trim c.args.line.now) (search rules) (search rules)
  | in-c+in_ok-number-in-c+in_ok-number-in-c-2 w ↦ relates_too_much (trim c.args.line.now) (search rules) (search rules)
  | in-classes w ↦ lists_too_much (trim c.args.line.now) (search rules) (search rules)
]
