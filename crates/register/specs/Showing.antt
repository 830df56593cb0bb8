-- What show answers.
use Rattle.std.specs.Prelude.{ℕ}
use Rattle.runs.specs.Steps.{Reply, shown}
use Rattle.register.specs.declared.show.Side.{Side}
use Rattle.register.specs.declared.show.Side.TheVariants.{First, Second}
use Rattle.register.specs.declared.show.Shown.{Shown}

-- the sides have the numbers 1 and 2
abbrev pub side_number : Side → ℕ
side_number First = 1
side_number Second = 2

abbrev pub shown_reply : Shown → Reply
shown_reply s = shown s.individuals (side_number s.side)
