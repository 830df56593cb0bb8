-- The calls on the register of a session are a run.
use Rattle.std.proofs.Common.{◌≡◌, ℕ, List, [], ◌∷◌, ◌++◌, Some, None, Option, refl, sym, ap, ◌∙◌, subst, arith}
use Rattle.denial.specs.Denials.{Answer, granted, denied, and_then}
use Rattle.book.specs.Sections.{Sections, says}
use Rattle.book.specs.Reading.{reading}
use Rattle.roles.specs.Hierarchies.{roles_of}
use Rattle.questions.specs.Questions.{individuals_of}
use Rattle.grammar.specs.declared.Call.{Call}
use Rattle.grammar.specs.declared.Call.TheVariants.{Book, Sheet, AskBook, AskWorld, Open, Register, Relation, Classes}
use Rattle.grammar.specs.declared.Action.{Action}
use Rattle.plan.specs.Building.{verdict}
use Rattle.runs.specs.Setups.{Setup, setup}
use Rattle.runs.specs.Steps.{Call as Lent, Done, step}
use Rattle.runs.specs.Runs.{Event, event, Run}
use Rattle.script.specs.Hexes.{bytes_in}
use Rattle.script.specs.Sessions.{Opened, Held, Turn, started, drawn, drawn_by, opening_on, opened_by, open_or, lent_call, CalledOn, CallComes}
use Rattle.script.specs.Histories.{with_call, unless_read, events_after, Session, begun, led, classes_after, RunsIfOpen, SessionsRun}
use Rattle.runs.proofs.Rightness.{every_run_is_right}
use Rattle.script.proofs.Soundness.{opens}

-- a register was opened on the book in the bytes, and the events are a run of it, which left its classes as they stand
abbrev RanOn : List ℕ → Opened → List Event → Type 0
RanOn bytes g run =
    (s : Sections) × (reading bytes ≡ granted s) × (verdict (roles_of s) (says s) ≡ granted tt) × (g.setup ≡ setup (roles_of s) (says s))
    × Run g.setup [] run × (g.classes ≡ classes_after [] run)

abbrev RanIfOpen : List ℕ → Option Opened → List Event → Type 0
RanIfOpen bytes None run = run ≡ []
RanIfOpen bytes (Some g) run = RanOn bytes g run

-- one more call
run_more : (S : Setup) (cs : List ℕ) (run : List Event) (c : Lent) (d : Done) → Run S cs run → d ≡ step S (classes_after cs run) c → Run S cs (run ++ event c d ∷ [])
run_more S cs [] c d r e = (e, tt)
run_more S cs (f ∷ fs) c d r e = (r.0, run_more S f.done.classes fs c d r.1 e)

classes_more : (cs : List ℕ) (run : List Event) (c : Lent) (d : Done) → d.classes ≡ classes_after cs (run ++ event c d ∷ [])
classes_more cs [] c d = refl
classes_more cs (f ∷ fs) c d = classes_more f.done.classes fs c d

abbrev fresh_on : Sections → Opened
fresh_on s = record { setup = setup (roles_of s) (says s); classes = [] }

-- what is so of a turn is so of one that is equal to it
along : (run : List Event) (t u : Turn) → t ≡ u → RanIfOpen u.after.bytes u.after.register run → RanIfOpen t.after.bytes t.after.register run
along run t u e h = subst (λ (v : Turn). RanIfOpen v.after.bytes v.after.register run) (sym e) h

book_runs : (o : Option (List ℕ)) (old : Held) (run : List Event) → RanIfOpen old.bytes old.register run
    → RanIfOpen (started o old).after.bytes (started o old).after.register (unless_read o run)
book_runs None old run h = h
book_runs (Some bytes) old run h = refl

drawn_runs : (a : Answer ℕ) (words : List ℕ) (old : Held) (run : List Event) → RanIfOpen old.bytes old.register run
    → RanIfOpen (drawn_by a words old).after.bytes (drawn_by a words old).after.register run
drawn_runs (granted m) words old run h = h
drawn_runs (denied r) words old run h = h

sheet_runs : (o : Option (List ℕ)) (old : Held) (run : List Event) → RanIfOpen old.bytes old.register run
    → RanIfOpen (drawn o old).after.bytes (drawn o old).after.register run
sheet_runs None old run h = h
sheet_runs (Some words) old run h = drawn_runs (and_then (reading old.bytes) (λ s. individuals_of s words)) words old run h

-- a register that is opened has no events yet
fresh_runs : (bytes : List ℕ) (s : Sections) → reading bytes ≡ granted s → (g : Opened) (v : Answer (Unit {0})) → verdict (roles_of s) (says s) ≡ v
    → granted g ≡ and_then v (λ opened. granted (fresh_on s)) → RanOn bytes g []
fresh_runs bytes s e g (granted u) v f =
    let same : g ≡ fresh_on s = cc in
    (s, e, v, ap (λ (x : Opened). x.setup) same, tt, ap (λ (x : Opened). x.classes) same)
fresh_runs bytes s e g (denied r) v f = absurd (let z : ◌≡◌ {A = ℕ} 0 1 = cc in omega arith)

open_runs : (old : Held) (a : Answer Sections) → reading old.bytes ≡ a
    → RanIfOpen (opened_by (and_then a opening_on) old).after.bytes (opened_by (and_then a opening_on) old).after.register []
open_runs old (denied r) e = refl
open_runs old (granted s) e = by_verdict (opening_on s) refl
  where
    by_verdict : (o : Answer Opened) → o ≡ opening_on s → RanIfOpen (opened_by o old).after.bytes (opened_by o old).after.register []
    by_verdict (granted g) f = fresh_runs old.bytes s e g (verdict (roles_of s) (says s)) refl f
    by_verdict (denied r) f = refl

-- a call on a register that is open
called_runs : (g : Opened) (action : Action) (nodes : ℕ) (old : Held) (t : Turn) (run : List Event) → RanOn old.bytes g run → CalledOn (granted g) action nodes old t
    → RanIfOpen t.after.bytes t.after.register (with_call (granted g) action nodes run)
called_runs g action nodes old t run h k =
    let c = lent_call action nodes in
    let d = step g.setup g.classes c in
    let run' = run ++ event c d ∷ [] in
    let g' = k.0 in
    let S : g'.setup ≡ g.setup = ap (λ (x : Opened). x.setup) k.3.1 in
    let more : Run g.setup [] run' = run_more g.setup [] run c d h.4 (ap (λ (cs : List ℕ). step g.setup cs c) h.5) in
    let stands : g'.classes ≡ classes_after [] run' = ap (λ (x : Opened). x.classes) k.3.1 ∙ classes_more [] run c d in
    let on : RanOn old.bytes g' run' = (h.0, h.1, h.2, S ∙ h.3, subst (λ (T : Setup). Run T [] run') (sym S) more, stands) in
    subst (λ (b : List ℕ). RanIfOpen b t.after.register run') (sym k.1) (subst (λ (o : Option Opened). RanIfOpen old.bytes o run') (sym k.2) on)

register_runs : (action : Action) (nodes : ℕ) (old : Held) (t : Turn) (run : List Event) (a : Answer Sections) → reading old.bytes ≡ a → (o : Option Opened) → old.register ≡ o
    → RanIfOpen old.bytes o run
    → CalledOn (and_then a (λ s. open_or o (opening_on s))) action nodes old t
    → RanIfOpen t.after.bytes t.after.register (with_call (and_then a (λ s. open_or o (opening_on s))) action nodes run)
register_runs action nodes old t run (denied r) e o i h c = along run t _ c (subst (λ (x : Option Opened). RanIfOpen old.bytes x run) (sym i) h)
register_runs action nodes old t run (granted s) e (Some g) i h c = called_runs g action nodes old t run h c
register_runs action nodes old t run (granted s) e None i h c = by_opening (opening_on s) refl c
  where
    by_opening : (x : Answer Opened) → x ≡ opening_on s → CalledOn x action nodes old t → RanIfOpen t.after.bytes t.after.register (with_call x action nodes run)
    by_opening (granted g) f c =
        called_runs g action nodes old t run (subst (λ (es : List Event). RanOn old.bytes g es) (sym h) (fresh_runs old.bytes s e g (verdict (roles_of s) (says s)) refl f)) c
    by_opening (denied r) f c = along run t _ c (subst (λ (x : Option Opened). RanIfOpen old.bytes x run) (sym i) h)

call_runs : (call : Call) (old : Held) (t : Turn) (run : List Event) → RanIfOpen old.bytes old.register run → CallComes call old t
    → RanIfOpen t.after.bytes t.after.register (events_after call old run)
call_runs (Book hex) old t run h c = along (unless_read (bytes_in hex.now) run) t (started (bytes_in hex.now) old) c (book_runs (bytes_in hex.now) old run h)
call_runs (Sheet count text) old t run h c = along run t (drawn c.0 old) c.2 (sheet_runs c.0 old run h)
call_runs (AskBook q) old t run h c = along run t _ c h
call_runs (AskWorld q) old t run h c = along run t _ c.2 h
call_runs (Open base) old t run h c = along [] t _ c (open_runs old (reading old.bytes) refl)
call_runs (Register call) old t run h c = register_runs call.action call.nodes old t run (reading old.bytes) refl old.register refl h c
call_runs (Relation first second) old t run h c = along run t _ c h
call_runs Classes old t run h c = along run t _ c h

ran : (h : Held) (run : List Event) → Session h run → RanIfOpen h.bytes h.register run
ran _ _ begun = refl
ran _ _ (led old run call t s c) = call_runs call old t run (ran old run s) c

-- and a run of a register on a book is right
right_if_open : (bytes : List ℕ) (o : Option Opened) (run : List Event) → RanIfOpen bytes o run → RunsIfOpen bytes o run
right_if_open bytes None run h = h
right_if_open bytes (Some g) run h =
    let s = h.0 in record {
      book = s;
      read = h.1;
      opened = h.2;
      on = h.3;
      runs = h.4;
      stand = h.5;
      right = every_run_is_right (roles_of s) (says s) (opens bytes s h.1 h.2) run (subst (λ (S : Setup). Run S [] run) h.3 h.4);
    }

pub sessions_run : SessionsRun
sessions_run h run s = right_if_open h.bytes h.register run (ran h run s)
