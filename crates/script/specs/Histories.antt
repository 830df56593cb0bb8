-- What the register of a session has been through.
use Rattle.std.specs.Prelude.{◌≡◌, ℕ, List, [], ◌∷◌, ◌++◌, Some, None, Option}
use Rattle.denial.specs.Denials.{Answer, granted, denied}
use Rattle.book.specs.Sections.{Sections, says}
use Rattle.book.specs.Reading.{reading}
use Rattle.roles.specs.Hierarchies.{roles_of}
use Rattle.grammar.specs.declared.Call.{Call}
use Rattle.grammar.specs.declared.Call.TheVariants.{Book, Sheet, AskBook, AskWorld, Open, Register, Relation, Classes}
use Rattle.grammar.specs.declared.Action.{Action}
use Rattle.plan.specs.Building.{verdict}
use Rattle.runs.specs.Setups.{setup}
use Rattle.runs.specs.Steps.{step}
use Rattle.runs.specs.Runs.{Event, event, Run, Right}
use Rattle.script.specs.Hexes.{bytes_in}
use Rattle.script.specs.Sessions.{Opened, Held, fresh, Turn, lent_call, register_of, CallComes}

-- The calls on the register that is open, and what they came to, after one more line, where these are those before it. A line on the
-- register adds its call; `open` and another book start anew.
abbrev pub with_call : Answer Opened → Action → ℕ → List Event → List Event
with_call (granted g) action nodes run = run ++ event (lent_call action nodes) (step g.setup g.classes (lent_call action nodes)) ∷ []
with_call (denied r) action nodes run = run

abbrev pub unless_read : Option (List ℕ) → List Event → List Event
unless_read None run = run
unless_read (Some bytes) run = []

abbrev pub events_after : Call → Held → List Event → List Event
events_after (Book hex) old run = unless_read (bytes_in hex.now) run
events_after (Sheet count text) old run = run
events_after (AskBook q) old run = run
events_after (AskWorld q) old run = run
events_after (Open base) old run = []
events_after (Register call) old run = with_call (register_of old) call.action call.nodes run
events_after (Relation first second) old run = run
events_after Classes old run = run

-- what a session holds to which calls have led, from one that holds nothing, with the calls on the register that is open
pub data Session : Held → List Event → Type 0 where
  begun : Session (fresh []) []
  led : (old : Held) (run : List Event) (call : Call) (t : Turn) → Session old run → CallComes call old t → Session t.after (events_after call old run)

-- the entries by which the classes stand after the events
abbrev pub classes_after : List ℕ → List Event → List ℕ
classes_after cs [] = cs
classes_after cs (e ∷ es) = classes_after e.done.classes es

-- The register was opened on the book in the bytes, under the book's own hierarchy; the events are a run of it, which left its
-- classes as they stand; and the run is right.
pub record RunsOn (bytes : List ℕ) (g : Opened) (run : List Event) : Type 0 where
  pub book : Sections
  pub read : reading bytes ≡ granted book
  pub opened : verdict (roles_of book) (says book) ≡ granted tt
  pub on : g.setup ≡ setup (roles_of book) (says book)
  pub runs : Run g.setup [] run
  pub stand : g.classes ≡ classes_after [] run
  pub right : Right (roles_of book) (says book) run

abbrev pub RunsIfOpen : List ℕ → Option Opened → List Event → Type 0
RunsIfOpen bytes None run = run ≡ []
RunsIfOpen bytes (Some g) run = RunsOn bytes g run

-- In every session the calls on the register are a run of a register on the book that is held, and the run is right.
abbrev pub SessionsRun : Type 0
SessionsRun = (h : Held) (run : List Event) → Session h run → RunsIfOpen h.bytes h.register run
