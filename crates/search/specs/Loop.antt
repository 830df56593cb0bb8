-- How the loop of a search goes on: what is to be done next, what the search comes to from there, and a number that falls
-- with each step. Only the clauses of the loop's own functions cite this.
use Rattle.std.specs.Prelude.{◌≡◌, ℕ, zero, suc, ◌+◌, ◌-◌, ◌*◌, ◌^◌, ◌<◌, ◌≤◌, cond, List, [], ◌∷◌, ◌++◌, length, take, Some, None, Option, Ok, Err, Result, ◌==◌, nat_lt, slice_index_or}
use Rattle.tableau.specs.declared.Label.{Label}
use Rattle.tableau.specs.Search.{Outcome, failed, stands, Searcher, or_else, and_then}
use Rattle.search.specs.declared.Node.{Node}
use Rattle.search.specs.declared.Waiting.{Waiting}
use Rattle.search.specs.declared.NoRoom.{NoRoom}
use Rattle.search.specs.Games.{Game, run_seeds, try_all, explore_by}
use Rattle.search.specs.Nodes.{blank, labels, BlankFrom, Says}

-- what is to be done next: go on at the newest waiting node, give up its label, or try the expansions of a seed from a
-- choice word on
pub data Task : Type 0 where
  Go Fail : Task
  Try : Label → ℕ → Task

-- more than each digit of what is left to do: a seed has at most 2 ^ 63 expansions, and a label at most 64 obligations
abbrev pub base : ℕ
base = 100 * 2 ^ 63 + 200

module _ (G : Game) where
  -- o is what an obligation of x came to, which waits at w, and st is what stood before x
  unfoldable pub plug : Searcher → Node → Waiting → List Label → Outcome → Outcome
  plug W x w st o =
      or_else (and_then o (run_seeds W (G.seeds_from x.label w.next))) (λ u. try_all G W (G.labels_from x.seed w.choice) st)

  -- a node that is done hands on what its obligations came to
  abbrev pub hand_on : Searcher → Node → Option Waiting → List Label → Outcome → Outcome
  hand_on W x None st o = o
  hand_on W x (Some w) st o = plug W x w st o

  -- o is what the newest of the nodes xs came to, and st is what stood before them: each node that waits goes on
  unfoldable pub resume : Searcher → List Label → List Node → Outcome → Outcome
  resume W st [] o = o
  resume W st (x ∷ xs) o = hand_on W x x.waiting st (resume W (st ++ x.label ∷ []) xs o)

  -- what the task comes to by itself, where the labels st stand
  unfoldable pub gives : Searcher → List Label → Task → Outcome
  gives W st Go = stands st
  gives W st Fail = failed
  gives W st (Try s c) = try_all G W (G.labels_from s c) st

  -- what a search in n nodes comes to from its first m nodes and the task
  unfoldable pub value : ℕ → List Node → ℕ → Task → Outcome
  value n nodes m t =
      resume (explore_by G n n) [] (take m nodes) (gives (explore_by G n n) (labels (take m nodes)) t)

  -- What is left to do, as a number of n digits, one for each node: first at a node that stands, as the expansions and the
  -- obligations that it has left.
  abbrev pub left : Node → Option Waiting → ℕ
  left x None = 0
  left x (Some w) = length (G.labels_from x.seed w.choice) * 100 + 2 + length (G.seeds_from x.label w.next)

  unfoldable pub weigh : Node → ℕ
  weigh x = left x x.waiting

  -- the digit of a node that does not stand
  unfoldable pub unused : Task → ℕ → ℕ → ℕ
  unused Go m i = base - 1
  unused Fail m i = 0
  unused (Try s c) m i = cond (i == m) (length (G.labels_from s c) * 100 + 1) (base - 1)

  unfoldable pub digit : List Node → ℕ → Task → ℕ → ℕ
  digit nodes m t i = cond (nat_lt i m) (weigh (slice_index_or nodes i blank)) (unused t m i)

-- the number with the first n digits that f gives, the highest first
unfoldable pub number : (ℕ → ℕ) → ℕ → ℕ
number f zero = 0
number f (suc i) = number f i * base + f i

unfoldable pub measure : Game → ℕ → List Node → ℕ → Task → ℕ
measure G n nodes m t = number (digit G nodes m t) n

-- a node that is to be written has room
abbrev pub Within : Task → ℕ → ℕ → Type 0
Within Go m n = m ≤ n
Within Fail m n = m ≤ n
Within (Try s c) m n = m < n

-- the first m nodes are in use and the others blank, and there is room for the task
pub record Fit (nodes : List Node) (m : ℕ) (t : Task) : Type 0 where
  pub within : Within t m (length nodes)
  pub blanks : BlankFrom m nodes

-- a step keeps what the search comes to, and leaves less to do
pub record Went (G : Game) (was : List Node) (m : ℕ) (t : Task) (is : List Node) (k : ℕ) (u : Task) : Type 0 where
  pub fit : Fit is k u
  pub kept : value G (length was) is k u ≡ value G (length was) was m t
  pub falls : measure G (length was) is k u < measure G (length was) was m t

-- the first m nodes went on to a seed that wants a further node, or until none waits
abbrev pub Lacks : Game → List Node → ℕ → List Node → Result (Option Label) NoRoom → Type 0
Lacks G was m is (Ok (Some s)) = Went G was m Go is m (Try s 0)
Lacks G was m is (Ok None) = Says is (Ok (Some m)) (value G (length was) was m Go)
Lacks G was m is (Err e) = Says is (Err e) (value G (length was) was m Go)

-- a label was given up, or none was left to give up
abbrev pub Retreats : Game → List Node → ℕ → List Node → Option (ℕ × Label × ℕ) → Type 0
Retreats G was m is (Some b) = Went G was m Fail is b.0 (Try b.1 b.2)
Retreats G was m is None = Says is (Ok None) (value G (length was) was m Fail)
