-- What a session holds, what it answers to each call, and what it holds then.
use Rattle.std.specs.Prelude.{◌≡◌, ℕ, ◌/◌, ◌⊎◌, Bool, List, [], length, min, replicate, codes, Some, None, Option, Result}
use Rattle.std.specs.Str.{IsUtf8, trim}
use Rattle.denial.specs.Denials.{Answer, granted, denied, and_then, answer, denial_report}
use Rattle.denial.specs.declared.Denial.{Denial}
use Rattle.book.specs.Sections.{Sections, says}
use Rattle.book.specs.Reading.{reading}
use Rattle.book.specs.Pieces.{parts_of}
use Rattle.roles.specs.Hierarchies.{roles_of}
use Rattle.lines.specs.Lines.{yes_line}
use Rattle.questions.specs.Questions.{below_of, transitive_of, individuals_of, judged_of, Kept}
use Rattle.grammar.specs.Spelling.{Spells}
use Rattle.grammar.specs.declared.Call.{Call}
use Rattle.grammar.specs.declared.Call.TheVariants.{Book, Sheet, AskBook, AskWorld, Open, Register, Relation, Classes}
use Rattle.grammar.specs.declared.BookQuestion.{BookQuestion}
use Rattle.grammar.specs.declared.BookQuestion.TheVariants.{Read, Parts, Below, Transitive}
use Rattle.grammar.specs.declared.WorldQuestion.{WorldQuestion}
use Rattle.grammar.specs.declared.WorldQuestion.TheVariants.{Judge, Keeps}
use Rattle.grammar.specs.declared.Action.{Action}
use Rattle.grammar.specs.declared.Action.TheVariants.{File, Ask, Show}
use Rattle.plan.specs.Building.{verdict}
use Rattle.runs.specs.Setups.{Setup, setup}
use Rattle.runs.specs.Steps.{Call as Lent, file, ask, show, Reply, class, said, shown, refused, step}
use Rattle.host.specs.Relations.{relation_of}
use Rattle.listing.specs.Listings.{listing_of}
use Rattle.script.specs.Hexes.{bytes_in, WordsIn, most_words}
use Rattle.script.specs.Lines.{read_line, part_lines, sheet_line, set_line, keeps_line, open_line, class_line, shown_line, relation_line, classes_line}
use Rattle.script.specs.Outcomes.{Outcome, no_call, called, text_of}

-- a register that is open: its setup, and the entries by which its classes stand
pub record Opened : Type 0 where
  pub setup : Setup
  pub classes : List ℕ

-- What a session holds: the bytes of the book, the register that is open, if one is, and the words of the sheet on which the world
-- stands, if there is one.
pub record Held : Type 0 where
  pub bytes : List ℕ
  pub register : Option Opened
  pub world : Option (List ℕ)

-- these bytes, no register and no world
abbrev pub fresh : List ℕ → Held
fresh bytes = record { bytes = bytes; register = None; world = None }

abbrev pub with_register : Held → Option Opened → Held
with_register h g = record { bytes = h.bytes; register = g; world = h.world }

abbrev pub with_world : Held → Option (List ℕ) → Held
with_world h w = record { bytes = h.bytes; register = h.register; world = w }

-- what a line comes to, and what the session holds then
pub record Turn : Type 0 where
  pub outcome : Outcome
  pub after : Held

abbrev pub turn : Outcome → Held → Turn
turn o h = record { outcome = o; after = h }

-- `book HEX`: nothing is answered, and nothing is left of the book before
abbrev pub started : Option (List ℕ) → Held → Turn
started None old = turn no_call old
started (Some bytes) old = turn (called (granted [])) (fresh bytes)

-- `sheet WORDS I:HEX ..`: the words are the world if they are a good sheet for the book, else there is none
abbrev pub drawn_by : Answer ℕ → List ℕ → Held → Turn
drawn_by (granted m) words old = turn (called (granted (sheet_line m))) (with_world old (Some words))
drawn_by (denied r) words old = turn (called (denied r)) (with_world old None)

abbrev pub drawn : Option (List ℕ) → Held → Turn
drawn None old = turn no_call old
drawn (Some words) old = drawn_by (and_then (reading old.bytes) (λ s. individuals_of s words)) words old

-- what a question to the book is answered, where it is read
abbrev pub book_answer : BookQuestion → List ℕ → Sections → Answer (List ℕ)
book_answer Read bytes s = granted (read_line (says s).roles (length s.pairs / 2) (says s).entries (says s).rules)
book_answer Parts bytes s = granted (part_lines (parts_of bytes))
book_answer (Below h r t) bytes s = and_then (below_of h s r t) (λ b. granted (yes_line b))
book_answer (Transitive h r) bytes s = and_then (transitive_of h s r) (λ b. granted (yes_line b))

abbrev pub asked_book : BookQuestion → List ℕ → Answer (List ℕ)
asked_book q bytes = and_then (reading bytes) (book_answer q bytes)

-- whether the world keeps the book, or the refusal of the sheet
abbrev pub KeptLine : Sections → List ℕ → Answer (List ℕ) → Type 0
KeptLine s words a = (r : Result Bool Denial) × Kept s words r × (a ≡ answer keeps_line denial_report r)

-- what a question to the world is answered, where the book is read
abbrev pub WorldAnswer : WorldQuestion → Sections → Option (List ℕ) → Answer (List ℕ) → Type 0
WorldAnswer q s None a = a ≡ granted (codes "no world\n")
WorldAnswer (Judge entry) s (Some words) a = a ≡ and_then (judged_of s words entry) (λ w. granted (set_line w))
WorldAnswer (Keeps base) s (Some words) a = KeptLine s words a

abbrev pub WorldAnswerAfter : Answer Sections → WorldQuestion → Option (List ℕ) → Answer (List ℕ) → Type 0
WorldAnswerAfter (granted s) q w a = WorldAnswer q s w a
WorldAnswerAfter (denied r) q w a = a ≡ denied r

abbrev pub AskedWorld : WorldQuestion → Held → Answer (List ℕ) → Type 0
AskedWorld q h a = WorldAnswerAfter (reading h.bytes) q h.world a

-- a fresh register on a book, if one is opened; it is the same under closure rows and under told pairs, which answer alike
abbrev pub opening_on : Sections → Answer Opened
opening_on s = and_then (verdict (roles_of s) (says s)) (λ opened. granted (record { setup = setup (roles_of s) (says s); classes = [] }))

abbrev pub opening : List ℕ → Answer Opened
opening bytes = and_then (reading bytes) opening_on

-- `open`: the register before is closed in any case
abbrev pub opened_by : Answer Opened → Held → Turn
opened_by (granted g) old = turn (called (granted (open_line g.setup.table.width))) (with_register old (Some g))
opened_by (denied r) old = turn (called (denied r)) (with_register old None)

-- the register that is open; where none is, a fresh one
abbrev pub open_or : Option Opened → Answer Opened → Answer Opened
open_or (Some g) new = granted g
open_or None new = new

abbrev pub register_of : Held → Answer Opened
register_of h = and_then (reading h.bytes) (λ s. open_or h.register (opening_on s))

-- what the words of a sheet hold before a world is shown on it
abbrev pub filler : ℕ
filler = 0x5a5a_5a5a_5a5a_5a5a

abbrev pub sheet_lent : ℕ → List ℕ
sheet_lent count = replicate (min count most_words) filler

-- a call on a register, with the nodes and the words that it is lent
abbrev pub lent_call : Action → ℕ → Lent
lent_call (File entry) nodes = file entry nodes
lent_call (Ask a b) nodes = ask a b nodes
lent_call (Show a b count) nodes = show a b nodes (sheet_lent count)

abbrev pub reply_answer : ℕ → List ℕ → Reply → Answer (List ℕ)
reply_answer roles sheet (class k) = granted (class_line k)
reply_answer roles sheet (said b) = granted (yes_line b)
reply_answer roles sheet (shown m side) = granted (shown_line roles m side sheet)
reply_answer roles sheet (refused r) = denied r

-- a world that is shown becomes the world
abbrev pub world_after : Reply → List ℕ → Option (List ℕ) → Option (List ℕ)
world_after (class k) sheet w = w
world_after (said b) sheet w = w
world_after (shown m side) sheet w = Some sheet
world_after (refused r) sheet w = w

-- A call on a register, where the words of the world are these: its outcome, and the register and the world then. The reply is the
-- answer, and the register has the classes that stand after the step.
abbrev pub Performs : Opened → Lent → Option (List ℕ) → Outcome → Opened → Option (List ℕ) → Type 0
Performs g call w o g' w' =
    let d = step g.setup g.classes call in
    (o ≡ called (reply_answer g.setup.roles d.sheet d.reply)) × (g' ≡ record { setup = g.setup; classes = d.classes }) × (w' ≡ world_after d.reply d.sheet w)

-- `file`, `ask` and `show`
abbrev pub CalledOn : Answer Opened → Action → ℕ → Held → Turn → Type 0
CalledOn (granted g) action nodes old t =
    (g' : Opened) × (t.after.bytes ≡ old.bytes) × (t.after.register ≡ Some g') × Performs g (lent_call action nodes) old.world t.outcome g' t.after.world
CalledOn (denied r) action nodes old t = t ≡ turn (called (denied r)) old

-- What a call comes to, for what the session held before. A refused `file`, `ask` or `show` leaves the classes and the world as they
-- were: so `RefusalsChangeNothing` says of each step of a register.
abbrev pub CallComes : Call → Held → Turn → Type 0
CallComes (Book hex) old t = t ≡ started (bytes_in hex.now) old
CallComes (Sheet count text) old t = (words : Option (List ℕ)) × WordsIn count text.now words × (t ≡ drawn words old)
CallComes (AskBook q) old t = t ≡ turn (called (asked_book q old.bytes)) old
CallComes (AskWorld q) old t = (a : Answer (List ℕ)) × AskedWorld q old a × (t ≡ turn (called a) old)
CallComes (Open base) old t = t ≡ opened_by (opening old.bytes) old
CallComes (Register call) old t = CalledOn (register_of old) call.action call.nodes old t
CallComes (Relation first second) old t = t ≡ turn (called (granted (relation_line (relation_of old.bytes first second)))) old
CallComes Classes old t = t ≡ turn (called (granted (classes_line (listing_of old.bytes)))) old

-- a line without the white space at its ends spells the call
abbrev pub IsCall : List ℕ → Call → Type 0
IsCall line call = IsUtf8 line × Spells (trim line) call

-- What a line comes to: it spells a call, or it spells none, and then the session is as before.
abbrev pub LineComes : List ℕ → Held → Turn → Type 0
LineComes line old t = ((call : Call) × IsCall line call × CallComes call old t) ⊎ (((call : Call) → ¬ (IsCall line call)) × (t ≡ turn no_call old))

-- The text that a session prints for the line with the number, and what it holds then.
abbrev pub Answers : ℕ → List ℕ → Held → List ℕ → Held → Type 0
Answers number line old text new = (o : Outcome) × (text ≡ text_of number o) × LineComes line old (turn o new)
