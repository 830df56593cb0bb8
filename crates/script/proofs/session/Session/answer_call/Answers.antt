use Rattle.std.proofs.Common.{◌≡◌, Ok, subst, arith}
use Rattle.std.proofs.lemmas.Result.{MatchResult-at_ok}
use Rattle.std.specs.Str.{IsUtf8, trim}
use Rattle.grammar.specs.Spelling.{Spells}
use Rattle.grammar.specs.declared.Call.{Call}
use Rattle.grammar.specs.declared.Call.TheVariants.{Book}
use Rattle.script.specs.Views.{held_of}
use Rattle.script.proofs.Coming.{line_is_call}
use Rattle.script.proofs.session.Session.answer_call.Goals as goal

pub returns-in-Book : goal.returns-in-Book
returns-in-Book c =
    let line = c.args.line.now in
    let text = c.in_ok-text.text in
    let read : c.from_utf8.result ≡ Ok text = grind arith in
    let whole = MatchResult-at_ok (λ s. (s.now ≡ line) × IsUtf8 line) _ text read c.from_utf8.ensures.cases in
    line_is_call line text.now (Book c.in-Book.hex) (held_of c.args.self.now) (held_of c.start.new.self) c.start.result whole.0 whole.1
    (subst (λ (call : Call). Spells (trim text.now) call) c.in-Book.is c.in_ok-hex.ensures) c.start.ensures
