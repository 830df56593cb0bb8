-- What comes of a label up to the first entry that leaves a choice.
use Rattle.std.specs.Prelude.{◌≡◌, ℕ, suc, ◌<◌, ◌≤◌, false, [], Option, MatchOption}
use Rattle.tableau.specs.declared.Label.{Label}
use Rattle.tableau.specs.Labels.{put}
use Rattle.tableau.specs.Entries.{Table}
use Rattle.tableau.specs.Expansions.{Ways, One, Two, clash, taken, expand}
use Rattle.tableau.specs.Saturation.{Holds, In}
use Rattle.expand.specs.declared.Step.{Step}
use Rattle.expand.specs.declared.Step.TheVariants.{Grown, Choice}
use Rattle.expand.specs.declared.Run.{Run}
use Rattle.expand.specs.declared.Run.TheVariants.{Done, Fork}
use Rattle.expand.specs.Choices.{from}

-- the ways of a label l that a step stands for
abbrev pub ways_of : Label → Step → Ways
ways_of l (Grown m) = One m
ways_of l (Choice x y) = Two (put x.sign x.entry l) (put y.sign y.entry l)

-- the choice is between entries below k
abbrev pub Below : ℕ → Step → Type 0
Below k (Grown m) = Unit {0}
Below k (Choice x y) = (x.entry < k) × (y.entry < k)

-- the label stays as it is by the entries from i on, up to k
abbrev pub Free : Table → Label → ℕ → ℕ → Type 0
Free B l i k = (j : ℕ) → i ≤ j → j < k → taken (B.entry j) j l ≡ One l

-- every expansion of l by the entries below k holds what h holds
abbrev pub Foreseen : Table → ℕ → Label → Label → Type 0
Foreseen B k l h = (e : Label) → In e (expand B k l) → Holds e h

-- the entries below k make m of l, up to the entries below j
pub record Along (B : Table) (k : ℕ) (l : Label) (j : ℕ) (m : Label) : Type 0 where
  pub few : j ≤ k
  pub same : (c : ℕ) → from B k l c ≡ from B j m c

-- one expansion at most, which does not clash; or those of the two labels that entry j makes of one
abbrev pub Comes : Table → ℕ → Label → Run → Type 0
Comes B k l (Done m) = Along B k l 0 m × (clash B m ≡ false)
Comes B k l (Fork j g x y) =
    Along B k l (suc j) g.label
    × (taken (B.entry j) j g.label ≡ Two (put x.sign x.entry g.label) (put y.sign y.entry g.label))
    × Foreseen B (suc j) g.label g.ahead
    × (x.entry < j)
    × (y.entry < j)

-- no expansion, or what comes of the run
abbrev pub Runs : Table → ℕ → Label → Option Run → Type 0
Runs B k l r = MatchOption r ((c : ℕ) → from B k l c ≡ []) (Comes B k l)
