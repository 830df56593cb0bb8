-- Runs of a register, and what is right of every run.
use Rattle.std.specs.Prelude.{◌≡◌, ℕ, zero, suc, ◌^◌, ◌<◌, ◌≤◌, Bool, true, false, cond, ◌⊎◌, List, [], ◌∷◌, map, Some, None, Option, ◌==◌, ◌≢◌, slice_index_or}
use Rattle.denial.specs.Denials.{granted}
use Rattle.denial.specs.declared.Report.{Report}
use Rattle.meaning.specs.Bounded.{or_else}
use Rattle.meaning.specs.Worlds.{Interpretation, holds}
use Rattle.meaning.specs.Orders.{RoleBox}
use Rattle.meaning.specs.Books.{Book, Keeps}
use Rattle.sheet.specs.Sheets.{sheet_of, written}
use Rattle.tableau.specs.Working.{width_of}
use Rattle.tableau.specs.Promises.{Opens, Empty}
use Rattle.runs.specs.Setups.{Setup, setup}
use Rattle.runs.specs.Steps.{Call, file, ask, show, Reply, class, said, shown, refused, Done, step}

-- a call of a run, and what it came to
pub record Event : Type 0 where
  pub call : Call
  pub done : Done

abbrev pub event : Call → Done → Event
event c d = record { call = c; done = d }

-- The events are a run of a register whose classes stand by the entries cs: each call ended as the step says, on the classes
-- that the one before it left.
abbrev pub Run : Setup → List ℕ → List Event → Type 0
Run S cs [] = Unit {0}
Run S cs (e ∷ rest) = (e.done ≡ step S cs e.call) × Run S e.done.classes rest

-- the run that calls make
unfoldable pub history : Setup → List ℕ → List Call → List Event
history S cs [] = []
history S cs (c ∷ rest) = event c (step S cs c) ∷ history S (step S cs c).classes rest

-- it is a run, and every run is that of its calls
pub record RunsByCalls : Type 0 where
  pub history_runs : (S : Setup) (cs : List ℕ) (calls : List Call) → Run S cs (history S cs calls)
  pub run_is_history : (S : Setup) (cs : List ℕ) (run : List Event) → Run S cs run → run ≡ history S cs (map (λ e. e.call) run)

-- the event is one of the run
abbrev pub In : Event → List Event → Type 0
In e [] = ⊥
In e (f ∷ fs) = (f ≡ e) ⊎ In e fs

-- In the run, file gave the class number p for the entry.
pub record Gave (run : List Event) (entry p : ℕ) : Type 0 where
  pub nodes : ℕ
  pub done : Done
  pub came : In (event (file entry nodes) done) run
  pub replied : done.reply ≡ class p

-- the entry, where the reply is the class number p
abbrev pub gave_number : Reply → ℕ → ℕ → Option ℕ
gave_number (class q) p entry = cond (q == p) (Some entry) None
gave_number (said b) p entry = None
gave_number (shown m side) p entry = None
gave_number (refused r) p entry = None

-- the entry of a filing, where the reply is the class number p
abbrev pub filed_for : Call → Reply → ℕ → Option ℕ
filed_for (file entry n) r p = gave_number r p entry
filed_for (ask a b n) r p = None
filed_for (show a b n words) r p = None

-- the first entry for which file gave the class number p
unfoldable pub first_entry_for : List Event → ℕ → Option ℕ
first_entry_for [] p = None
first_entry_for (e ∷ es) p = or_else (filed_for e.call e.done.reply p) (first_entry_for es p)

-- is x in the entry, if there is one
abbrev pub in_entry : Book → Interpretation → Option ℕ → ℕ → Bool
in_entry K W None x = false
in_entry K W (Some entry) x = holds W K.concept entry x

-- Is the individual x of class p in the world? Class 0 has none; any other has those in the first entry for which file gave p,
-- and none where file never gave it.
abbrev pub of_class : Book → List Event → Interpretation → ℕ → ℕ → Bool
of_class K run W zero x = false
of_class K run W (suc p) x = in_entry K W (first_entry_for run (suc p)) x

-- A finite world that keeps the book has an individual in a and outside b.
pub record Separated (H : RoleBox) (K : Book) (a b : ℕ) : Type 0 where
  pub world : Interpretation
  pub keeps : Keeps H K world
  pub individual : ℕ
  pub there : individual < world.size
  pub inside : holds world K.concept a individual ≡ true
  pub outside : holds world K.concept b individual ≡ false

-- No finite world that keeps the book has an individual in one of the two and outside the other.
abbrev pub Inseparable : RoleBox → Book → ℕ → ℕ → Type 0
Inseparable H K a b = (Separated H K a b → ⊥) × (Separated H K b a → ⊥)

-- Every finite world that keeps the book puts all individuals of class a into class b.
abbrev pub Within : RoleBox → Book → List Event → ℕ → ℕ → Type 0
Within H K run a b =
    (W : Interpretation) → Keeps H K W → (x : ℕ) → x < W.size → of_class K run W a x ≡ true → of_class K run W b x ≡ true

-- how many nodes the call was lent
abbrev pub lent : Call → ℕ
lent (file entry n) = n
lent (ask a b n) = n
lent (show a b n words) = n

-- the words that the call was lent
abbrev pub lent_words : Call → List ℕ
lent_words (file entry n) = []
lent_words (ask a b n) = []
lent_words (show a b n words) = words

-- the individual 0 of the world is of class a and not of class b
abbrev pub Parts : Book → List Event → Interpretation → ℕ → ℕ → Type 0
Parts K run W a b = (of_class K run W a 0 ≡ true) × (of_class K run W b 0 ≡ false)

-- A world that was shown: the words are a good sheet of m individuals; the world on it keeps the book; and its individual 0
-- is of the class on the side answered, 1 or 2, and not of the other.
pub record ShownRight (H : RoleBox) (K : Book) (run : List Event) (a b m side : ℕ) (words : List ℕ) : Type 0 where
  pub good : sheet_of H.count words ≡ granted words
  pub many : slice_index_or words 0 0 ≡ m
  pub keeps : Keeps H K (written H.count m words)
  pub sides : ((side ≡ 1) × Parts K run (written H.count m words) a b) ⊎ ((side ≡ 2) × Parts K run (written H.count m words) b a)

-- class 0, or a number that file gave in the run
abbrev pub Known : List Event → ℕ → Type 0
Known run zero = Unit {0}
Known run (suc p) = (entry : ℕ) × Gave run entry (suc p)

-- What is right of a run on the book K under the hierarchy H.
pub record Right (H : RoleBox) (K : Book) (run : List Event) : Type 0 where
  -- Any two class numbers that file gave are equal exactly when no finite world that keeps the book has an individual in one
  -- of the two filed entries and outside the other.
  pub equal_means_inseparable : (e f p q : ℕ) → Gave run e p → Gave run f q → p ≡ q → Inseparable H K e f
  pub inseparable_means_equal : (e f p q : ℕ) → Gave run e p → Gave run f q → Inseparable H K e f → p ≡ q
  -- The number is 0 exactly when no finite world that keeps the book has an individual in the entry.
  pub zero_means_empty : (e : ℕ) → Gave run e 0 → Empty H K e
  pub empty_means_zero : (e p : ℕ) → Gave run e p → Empty H K e → p ≡ 0
  -- An ask that was not refused said yes exactly when every finite world that keeps the book puts all individuals of the
  -- first class into the second; and it named numbers that file gave.
  pub yes_means_within : (a b n : ℕ) (d : Done) → In (event (ask a b n) d) run → d.reply ≡ said true → Within H K run a b
  pub no_means_not_within : (a b n : ℕ) (d : Done) → In (event (ask a b n) d) run → d.reply ≡ said false → Within H K run a b → ⊥
  pub asked_were_given : (a b n : ℕ) (s : Bool) (d : Done) → In (event (ask a b n) d) run → d.reply ≡ said s → Known run a × Known run b
  -- No call that was lent 3 ^ w nodes or more was refused for want of room.
  pub room_suffices : (c : Call) (d : Done) (r : Report) → In (event c d) run → 3 ^ width_of H K ≤ lent c → d.reply ≡ refused r → r.number ≢ 15
  -- A world that was shown keeps the book and separates its two classes, whose numbers file gave.
  pub shown_right : (a b n m side : ℕ) (words : List ℕ) (d : Done) → In (event (show a b n words) d) run → d.reply ≡ shown m side
      → ShownRight H K run a b m side d.sheet
  pub shown_were_given : (a b n m side : ℕ) (words : List ℕ) (d : Done) → In (event (show a b n words) d) run → d.reply ≡ shown m side
      → Known run a × Known run b
  -- Different numbers are never refused as equal.
  pub refused_as_equal_means_equal : (a b n : ℕ) (words : List ℕ) (d : Done) (r : Report) → In (event (show a b n words) d) run → d.reply ≡ refused r → r.number ≡ 16 → a ≡ b

-- It is right of every run, of calls in any number and order, refused ones too, each lent any nodes and words or none: on
-- every sound book under every lawful hierarchy on which a register is opened.
abbrev pub EveryRunIsRight : Type 0
EveryRunIsRight = (H : RoleBox) (K : Book) → Opens H K → (run : List Event) → Run (setup H K) [] run → Right H K run

-- A call that is refused leaves the classes and the lent words as they were.
abbrev pub RefusalsChangeNothing : Type 0
RefusalsChangeNothing = (S : Setup) (cs : List ℕ) (c : Call) (r : Report) → (step S cs c).reply ≡ refused r
    → ((step S cs c).classes ≡ cs) × ((step S cs c).sheet ≡ lent_words c)
