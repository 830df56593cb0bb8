-- Every run is right.
use Rattle.std.proofs.Common.{◌≡◌, ℕ, zero, suc, ◌^◌, ◌<◌, ◌≤◌, Bool, true, false, List, [], ◌∷◌, map, length, get_or, sym, refl, ap, ◌∙◌, subst, inl, inr, ⊎_elim, arith}
use Rattle.std.proofs.lemmas.Bool.{leb-true}
use Rattle.denial.specs.declared.Report.{Report}
use Rattle.meaning.specs.Worlds.{Interpretation, Sized, holds}
use Rattle.meaning.specs.Orders.{RoleBox}
use Rattle.meaning.specs.Books.{Book, Keeps}
use Rattle.meaning.specs.Agreement.{Agree, Confined, Alike}
use Rattle.meaning.proofs.Agreement.{agreeing_worlds}
use Rattle.tableau.specs.declared.Label.{Label}
use Rattle.tableau.specs.Working.{width_of}
use Rattle.tableau.specs.Promises.{Opens, found_world}
use Rattle.sheet.specs.Sheets.{written}
use Rattle.drawing.specs.Drawings.{drawn_on, Drawn}
use Rattle.drawing.proofs.Sheets.{drawing_right}
use Rattle.runs.specs.Setups.{Setup, setup}
use Rattle.runs.specs.Steps.{Call, file, ask, show, Reply, class, said, shown, refused, Done, step, given, file_step, show_step}
use Rattle.runs.specs.Runs.{Event, event, Run, history, RunsByCalls, In, Gave, of_class, Within, lent, Parts, ShownRight, Known, Right, EveryRunIsRight}
use Rattle.runs.proofs.Searching.{member, Apart, Under}
use Rattle.runs.proofs.Filing.{Kept, kept_none, Belongs, FiledRight, FileRight, file_right}
use Rattle.runs.proofs.Answering.{SaidRight, AskRight, ask_right, ShownAt, ShowRight, show_right}
use Rattle.runs.proofs.Classes.{Extends, extends_long, extends_at, belongs_more, zero_none, none_zero, equal_inseparable, inseparable_equal}
use Rattle.runs.proofs.Running.{final, Moment, moment, final_kept, class_members, class_gave}

-- agreement goes both ways
agree_turned : (n : ℕ) (W V : Interpretation) → Agree n W V → Agree n V W
agree_turned n W V a = record {
  size = sym a.size;
  bears = λ x k l m. sym (a.bears x k (omega (arith, a.size)) m);
  joins = λ r x y l m o. sym (a.joins r x y l (omega (arith, a.size)) (omega (arith, a.size)));
}

-- an old class has the same individuals when there are more
member_more : (K : Book) (cs ds : List ℕ) → Extends cs ds → (W : Interpretation) (a x : ℕ) → given cs a ≡ true → member K ds W a x ≡ member K cs W a x
member_more K cs ds e W zero x g = refl
member_more K cs ds e W (suc a) x g = ap (λ c. holds W K.concept c x) (extends_at cs ds e a (omega (arith, leb-true (suc a) (length cs) g)))

module _ (H : RoleBox) (K : Book) (P : Opens H K) where
  confined : Confined H
  confined = record { below_in = P.ordered.law.within; transitive_in = P.ordered.inside }

  -- a found world that was written on words keeps the book on them, and has the same individuals in the classes
  module _ (cs : List ℕ) (kept : Kept H K cs) (ls : List Label) (words : List ℕ) (drawn : Drawn H.count (found_world H K ls) words) where
    alike : Alike K (found_world H K ls) (written H.count (length ls) words)
    alike =
        agreeing_worlds K P.sound (found_world H K ls) (written H.count (length ls) words)
        (agree_turned K.roles (written H.count (length ls) words) (found_world H K ls)
        (subst (λ n. Agree n (written H.count (length ls) words) (found_world H K ls)) P.roles drawn.agrees))

    on_sheet : (a : ℕ) → given cs a ≡ true → 0 < length ls → member K cs (found_world H K ls) a 0 ≡ member K cs (written H.count (length ls) words) a 0
    on_sheet zero g some = refl
    on_sheet (suc a) g some = alike.members (get_or cs a 0) 0 (kept.named a (omega (arith, leb-true (suc a) (length cs) g))) some

    keeps_sheet : Keeps H K (found_world H K ls) → Keeps H K (written H.count (length ls) words)
    keeps_sheet keeps = alike.keeping H confined P.roles keeps

  module _ (calls : List Call) where
    abbrev run : List Event
    run = history (setup H K) [] calls

    abbrev last : List ℕ
    last = final (setup H K) [] calls

    kept_last : Kept H K last
    kept_last = (final_kept H K P [] (kept_none H K) calls).0

    at : (c : Call) (d : Done) → In (event c d) run → Moment H K c d last
    at c d i = moment H K P [] (kept_none H K) calls c d i

    -- an entry belongs where file put it
    gave_belongs : (e p : ℕ) → Gave run e p → Belongs H K last e p
    gave_belongs e p g =
        let m = at (file e g.nodes) g.done g.came in
        let s = file_step (setup H K) m.classes e g.nodes in
        let r : s.reply ≡ class p = ap (λ d. d.reply) m.is ∙ g.replied in
        let f : FiledRight H K m.classes e p s.classes = subst (λ x. FileRight H K m.classes e g.nodes x s.classes) r (file_right H K P m.classes m.kept e g.nodes) in
        belongs_more H K s.classes last m.after e p f.belongs

    -- the individuals of a class, by the run and by the classes at a moment of it
    class_at : (cs : List ℕ) → Extends cs last → (W : Interpretation) (a x : ℕ) → given cs a ≡ true → of_class K run W a x ≡ member K cs W a x
    class_at cs e W a x g =
        class_members H K P calls W a x (omega (arith, leb-true a (length cs) g, extends_long cs last e)) ∙ member_more K cs last e W a x g

    -- an answer, by the classes at its moment
    asked_at : (a b n : ℕ) (d : Done) (s : Bool) → (m : Moment H K (ask a b n) d last) → d.reply ≡ said s → SaidRight H K m.classes a b s
    asked_at a b n d s m r =
        subst (AskRight H K m.classes a b n) (ap (λ d. d.reply) m.is ∙ r) (ask_right H K P m.classes m.kept n a b)

    within_at : (cs : List ℕ) → Extends cs last → (a b : ℕ) → given cs a ≡ true → given cs b ≡ true → Under H K cs a b → Within H K run a b
    within_at cs e a b g h u W keeps x l i = class_at cs e W b x h ∙ u W keeps x l (sym (class_at cs e W a x g) ∙ i)

    under_at : (cs : List ℕ) → Extends cs last → (a b : ℕ) → given cs a ≡ true → given cs b ≡ true → Within H K run a b → Under H K cs a b
    under_at cs e a b g h u W keeps x l i = sym (class_at cs e W b x h) ∙ u W keeps x l (class_at cs e W a x g ∙ i)

    -- a show, by the classes at its moment
    shown_at : (a b n : ℕ) (words : List ℕ) (d : Done) (r : Reply) → (m : Moment H K (show a b n words) d last) → d.reply ≡ r
        → ShowRight H K m.classes a b n words r (show_step (setup H K) m.classes a b n words).sheet
    shown_at a b n words d r m e =
        subst (λ x. ShowRight H K m.classes a b n words x (show_step (setup H K) m.classes a b n words).sheet)
        (ap (λ d. d.reply) m.is ∙ e) (show_right H K P m.classes m.kept n a b words)

    -- no refusal for want of room, call by call
    roomy : (c : Call) (d : Done) (r : Report) → Moment H K c d last → 3 ^ width_of H K ≤ lent c → d.reply ≡ refused r → r.number ≡ 15 → ⊥
    roomy (file e n) d r m room x number =
        (subst (λ x. FileRight H K m.classes e n x (file_step (setup H K) m.classes e n).classes) (ap (λ d. d.reply) m.is ∙ x)
        (file_right H K P m.classes m.kept e n)).1.room number room
    roomy (ask a b n) d r m room x number =
        (subst (AskRight H K m.classes a b n) (ap (λ d. d.reply) m.is ∙ x) (ask_right H K P m.classes m.kept n a b)).room number room
    roomy (show a b n words) d r m room x number = (shown_at a b n words d (refused r) m x).1.room.room number room

    -- a number that was given at a moment of the run is known
    known_at : (cs : List ℕ) → Extends cs last → (a : ℕ) → given cs a ≡ true → Known run a
    known_at cs e zero g = tt
    known_at cs e (suc a) g =
        (get_or last a 0, class_gave H K P calls a (omega (arith, leb-true (suc a) (length cs) g, extends_long cs last e)))

    module _ (cs : List ℕ) (kept : Kept H K cs) (e : Extends cs last) (a b m side : ℕ) (words sheet : List ℕ) (s : ShownAt H K cs a b words m side sheet) where
      sized : Sized (found_world H K s.labels)
      sized = record { some = s.some; few = s.few }

      abbrev drawn : List ℕ
      drawn = drawn_on H.count (found_world H K s.labels) words

      right_drawn : Drawn H.count (found_world H K s.labels) drawn
      right_drawn = drawing_right H.count (found_world H K s.labels) sized words s.fits

      -- the world on the sheet holds the classes apart as the found one does
      side_right : (a b : ℕ) → given cs a ≡ true → given cs b ≡ true → Apart H K cs a b (found_world H K s.labels)
          → Parts K run (written H.count (length s.labels) drawn) a b
      side_right a b g h p = (
        class_at cs e (written H.count (length s.labels) drawn) a 0 g ∙ sym (on_sheet cs kept s.labels drawn right_drawn a g s.some) ∙ p.inside,
        class_at cs e (written H.count (length s.labels) drawn) b 0 h ∙ sym (on_sheet cs kept s.labels drawn right_drawn b h s.some) ∙ p.outside,
      )

      drawn_right : ShownRight H K run a b (length s.labels) side drawn
      drawn_right = record {
        good = right_drawn.good;
        many = right_drawn.many;
        keeps = keeps_sheet cs kept s.labels drawn right_drawn (⊎_elim (λ p. p.1.keeps) (λ p. p.1.keeps) s.sides);
        sides = ⊎_elim
            (λ p. inl (p.0, side_right a b s.first_given s.second_given p.1))
            (λ p. inr (p.0, side_right b a s.second_given s.first_given p.1))
            s.sides;
      }

      sheet_right : ShownRight H K run a b m side sheet
      sheet_right =
          subst (λ w. ShownRight H K run a b m side w) (sym s.drawn) (subst (λ n. ShownRight H K run a b n side drawn) (sym s.many) drawn_right)

    right : Right H K run
    right = record {
      equal_means_inseparable = λ e f p q g h. equal_inseparable H K last kept_last e f p q (gave_belongs e p g) (gave_belongs f q h);
      inseparable_means_equal = λ e f p q g h. inseparable_equal H K last kept_last e f p q (gave_belongs e p g) (gave_belongs f q h);
      zero_means_empty = λ e g W keeps x l h.
          zero_none H K last kept_last e (gave_belongs e 0 g) (record { world = W; keeps = keeps; individual = x; there = l; inside = h });
      empty_means_zero = λ e p g none.
          none_zero H K last kept_last e p (gave_belongs e p g) (λ i. none i.world i.keeps i.individual i.there i.inside);
      yes_means_within = λ a b n d i r.
          let m = at (ask a b n) d i in
          let s = asked_at a b n d true m r in
          within_at m.classes m.before a b s.first_given s.second_given (s.yes_right refl);
      no_means_not_within = λ a b n d i r w.
          let m = at (ask a b n) d i in
          let s = asked_at a b n d false m r in
          s.no_right refl (under_at m.classes m.before a b s.first_given s.second_given w);
      asked_were_given = λ a b n s d i r.
          let m = at (ask a b n) d i in
          let t = asked_at a b n d s m r in
          (known_at m.classes m.before a t.first_given, known_at m.classes m.before b t.second_given);
      room_suffices = λ c d r i room x number. roomy c d r (at c d i) room x number;
      shown_right = λ a b n m side words d i r.
          let t = at (show a b n words) d i in
          subst (λ w. ShownRight H K run a b m side w) (ap (λ d. d.sheet) t.is)
          (sheet_right t.classes t.kept t.before a b m side words (show_step (setup H K) t.classes a b n words).sheet
          (shown_at a b n words d (shown m side) t r));
      shown_were_given = λ a b n m side words d i r.
          let t = at (show a b n words) d i in
          let s = shown_at a b n words d (shown m side) t r in
          (known_at t.classes t.before a s.first_given, known_at t.classes t.before b s.second_given);
      refused_as_equal_means_equal = λ a b n words d r i x number.
          (shown_at a b n words d (refused r) (at (show a b n words) d i) x).1.equal number;
    }

-- the run of calls is a run
history_runs : (S : Setup) (cs : List ℕ) (calls : List Call) → Run S cs (history S cs calls)
unfolding history
history_runs S cs [] = tt
history_runs S cs (c ∷ rest) = (refl, history_runs S (step S cs c).classes rest)

-- and a run is that of its calls
run_is_history : (S : Setup) (cs : List ℕ) (run : List Event) → Run S cs run → run ≡ history S cs (map (λ e. e.call) run)
unfolding history
run_is_history S cs [] r = refl
run_is_history S cs (e ∷ rest) r =
    let same : e ≡ event e.call (step S cs e.call) = λ i. record { call = e.call; done = r.0 i } in
    ap (λ x. x ∷ rest) same
    ∙ ap (λ xs. event e.call (step S cs e.call) ∷ xs) (run_is_history S e.done.classes rest r.1
    ∙ ap (λ d. history S d.classes (map (λ e. e.call) rest)) r.0)

pub runs_by_calls : RunsByCalls
runs_by_calls = record { history_runs = history_runs; run_is_history = run_is_history }

pub every_run_is_right : EveryRunIsRight
every_run_is_right H K P run steps = subst (Right H K) (sym (run_is_history (setup H K) [] run steps)) (right H K P (map (λ e. e.call) run))
