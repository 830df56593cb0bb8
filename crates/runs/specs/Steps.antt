-- What each call of a register comes to: the reply, the classes afterwards, the lent nodes and the lent words afterwards.
use Rattle.std.specs.Prelude.{ℕ, zero, suc, ◌+◌, Bool, true, false, cond, not, List, [], ◌∷◌, ◌++◌, length, replicate, Some, None, Option, Ok, Err, Result, ◌==◌, nat_le, nat_lt}
use Rattle.denial.specs.Denials.{reported, denial_report}
use Rattle.denial.specs.declared.Denial.{Denial}
use Rattle.denial.specs.declared.Denial.TheVariants.{Room}
use Rattle.denial.specs.declared.Report.{Report}
use Rattle.denial.specs.declared.Layer.TheVariants.{Register}
use Rattle.tableau.specs.declared.Label.{Label}
use Rattle.tableau.specs.Search.{Outcome, failed, full, stands}
use Rattle.tableau.specs.Working.{seed_of_not, seed_of_one}
use Rattle.search.specs.declared.NoRoom.{NoRoom}
use Rattle.search.specs.declared.Node.{Node}
use Rattle.search.specs.Nodes.{blank}
use Rattle.sheet.specs.Sheets.{needed}
use Rattle.drawing.specs.Drawings.{drawn_on}
use Rattle.runs.specs.Setups.{Setup, search_in, world_in, stand, apart_by, apart}

-- a call, with how many nodes and, for show, which words it was lent
pub data Call : Type 0 where
  file : (entry nodes : ℕ) → Call
  ask : (a b nodes : ℕ) → Call
  show : (a b nodes : ℕ) (words : List ℕ) → Call

-- a class number; yes or no; a world of so many individuals, the first of which is on the side answered; or a refusal
pub data Reply : Type 0 where
  class : ℕ → Reply
  said : Bool → Reply
  shown : (individuals side : ℕ) → Reply
  refused : Report → Reply

-- what a call comes to: its reply, the entries by which the classes stand then, and the nodes and words that it was lent
pub record Done : Type 0 where
  pub reply : Reply
  pub classes : List ℕ
  pub nodes : List Node
  pub sheet : List ℕ

-- a refusal of the register, by its number and detail
abbrev pub refusal : ℕ → ℕ → Reply
refusal number detail = refused (reported number detail Register)

-- the most classes besides class 0
abbrev pub most : ℕ
most = 24

-- "class not entry"
abbrev pub by_second_outcome : Outcome → Result Bool NoRoom
by_second_outcome failed = Ok true
by_second_outcome full = Err (record {})
by_second_outcome (stands ls) = Ok false

-- "entry not class", and only if that has no world "class not entry"
abbrev pub by_first_outcome : Outcome → (Unit {0} → Result Bool NoRoom) → Result Bool NoRoom
by_first_outcome failed second = second tt
by_first_outcome full second = Err (record {})
by_first_outcome (stands ls) second = Ok false

-- is the entry one with the class, so that no world holds it apart from the entry by which the class stands?
unfoldable pub compared : Setup → ℕ → ℕ → ℕ → Result Bool NoRoom
compared S entry c n = by_first_outcome (search_in S (seed_of_not entry c) n) (λ u. by_second_outcome (search_in S (seed_of_not c entry) n))

-- class k where the entry is one with it, else what comes next; without room the class is named
abbrev pub placed_by : Result Bool NoRoom → ℕ → (Unit {0} → Result (Option ℕ) Denial) → Result (Option ℕ) Denial
placed_by (Ok true) k next = Ok (Some k)
placed_by (Ok false) k next = next tt
placed_by (Err e) k next = Err (Room k)

-- the classes in turn, the first of those that are left being number k
unfoldable pub placed : Setup → ℕ → ℕ → List ℕ → ℕ → Result (Option ℕ) Denial
placed S entry n [] k = Ok None
placed S entry n (c ∷ cs) k = placed_by (compared S entry c n) k (λ u. placed S entry n cs (suc k))

-- "entry not 0" first: no world gives class 0
abbrev pub placed_first : Outcome → (Unit {0} → Result (Option ℕ) Denial) → Result (Option ℕ) Denial
placed_first failed next = Ok (Some 0)
placed_first full next = Err (Room 0)
placed_first (stands ls) next = next tt

-- where an entry belongs: to a class that there is, to none of them, or there was no room to tell
unfoldable pub placing : Setup → List ℕ → ℕ → ℕ → Result (Option ℕ) Denial
placing S cs entry n = placed_first (search_in S (seed_of_one entry) n) (λ u. placed S entry n cs 1)

-- a reply, with the classes that stand then
pub record Filed : Type 0 where
  pub reply : Reply
  pub classes : List ℕ

abbrev pub filed : Reply → List ℕ → Filed
filed r cs = record { reply = r; classes = cs }

-- the next number, if there is one
abbrev pub added : List ℕ → ℕ → Filed
added cs entry = cond (nat_lt (length cs) most) (filed (class (length cs + 1)) (cs ++ entry ∷ [])) (filed (refusal 14 most) cs)

abbrev pub filed_at : List ℕ → ℕ → Result (Option ℕ) Denial → Filed
filed_at cs entry (Ok (Some k)) = filed (class k) cs
filed_at cs entry (Ok None) = added cs entry
filed_at cs entry (Err d) = filed (refused (denial_report d)) cs

-- a class number that was given: 0, or one for each entry of the list
abbrev pub given : List ℕ → ℕ → Bool
given cs n = nat_le n (length cs)

-- yes where the search of "a not b" failed
abbrev pub told_ask : ℕ → Outcome → Reply
told_ask a failed = said true
told_ask a full = refusal 15 a
told_ask a (stands ls) = said false

-- is all of class a in class b: no search is made where one of them is 0
unfoldable pub asking : Setup → List ℕ → ℕ → ℕ → ℕ → Reply
asking S cs zero b n = said true
asking S cs (suc a) zero n = said false
asking S cs (suc a) (suc b) n = told_ask (suc a) (apart S cs (suc a) (suc b) n)

-- a reply, with the words of the sheet then
pub record Showed : Type 0 where
  pub reply : Reply
  pub sheet : List ℕ

abbrev pub showed : Reply → List ℕ → Showed
showed r words = record { reply = r; sheet = words }

-- the found world is written on the sheet, if it has at most 64 individuals and the words suffice
abbrev pub showed_world : Setup → List ℕ → ℕ → List Label → Showed
showed_world S words side ls =
    cond (nat_le (length ls) 64)
    (cond (nat_le (needed S.roles (length ls)) (length words))
    (showed (shown (length ls) side) (drawn_on S.roles (world_in S ls) words))
    (showed (refusal 11 (needed S.roles (length ls))) words))
    (showed (refusal 17 (length ls)) words)

-- "b not a", side 2. Where neither has a world the value is 16; in a run that never happens to different numbers.
abbrev pub showed_second : Setup → ℕ → List ℕ → Outcome → Showed
showed_second S a words failed = showed (refusal 16 a) words
showed_second S a words full = showed (refusal 15 a) words
showed_second S a words (stands ls) = showed_world S words 2 ls

-- "a not b", side 1, else the other way round
abbrev pub showed_first : Setup → ℕ → List ℕ → Outcome → (Unit {0} → Outcome) → Showed
showed_first S a words failed second = showed_second S a words (second tt)
showed_first S a words full second = showed (refusal 15 a) words
showed_first S a words (stands ls) second = showed_world S words 1 ls

-- a world of one side, or else of the other, by the entries by which the classes stand
abbrev pub separating : Setup → ℕ → Option ℕ → Option ℕ → ℕ → List ℕ → Showed
separating S a first second n words = showed_first S a words (apart_by S first second n) (λ u. apart_by S second first n)

unfoldable pub showing : Setup → List ℕ → ℕ → ℕ → ℕ → List ℕ → Showed
showing S cs a b n words = separating S a (stand cs a) (stand cs b) n words

-- x where the test holds, else what comes next
abbrev pub or_next : {A : Type 0} → Bool → A → (Unit {0} → A) → A
or_next true x next = x
or_next false x next = next tt

-- an entry that is not in the book is refused with 8
abbrev pub file_step : Setup → List ℕ → ℕ → ℕ → Filed
file_step S cs entry n = or_next (not (nat_lt entry S.entries)) (filed (refusal 8 entry) cs) (λ u. filed_at cs entry (placing S cs entry n))

-- a number that was not given yet is refused with 9, the first argument looked at first
abbrev pub ask_step : Setup → List ℕ → ℕ → ℕ → ℕ → Reply
ask_step S cs a b n =
    or_next (not (given cs a)) (refusal 9 a) (λ u. or_next (not (given cs b)) (refusal 9 b) (λ u. asking S cs a b n))

-- and then equal numbers with 16
abbrev pub show_step : Setup → List ℕ → ℕ → ℕ → ℕ → List ℕ → Showed
show_step S cs a b n words =
    or_next (not (given cs a)) (showed (refusal 9 a) words)
    (λ u. or_next (not (given cs b)) (showed (refusal 9 b) words)
    (λ u. or_next (a == b) (showed (refusal 16 a) words) (λ u. showing S cs a b n words)))

-- The step of a register whose classes stand by the entries cs, that of number 1 first. Every lent node is blank after it.
abbrev pub step : Setup → List ℕ → Call → Done
step S cs (file entry n) = record {
  reply = (file_step S cs entry n).reply;
  classes = (file_step S cs entry n).classes;
  nodes = replicate n blank;
  sheet = [];
}
step S cs (ask a b n) = record { reply = ask_step S cs a b n; classes = cs; nodes = replicate n blank; sheet = [] }
step S cs (show a b n words) = record {
  reply = (show_step S cs a b n words).reply;
  classes = cs;
  nodes = replicate n blank;
  sheet = (show_step S cs a b n words).sheet;
}
