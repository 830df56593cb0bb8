-- Clashes, and the expansions of a seed.
use Rattle.std.specs.Prelude.{ℕ, zero, suc, ◌+◌, Bool, true, false, cond, not, ◌&&◌, ◌||◌, List, [], ◌∷◌, ◌++◌}
use Rattle.meaning.specs.Bounded.{any}
use Rattle.meaning.specs.declared.Concept.TheVariants.{Nothing, Everything, Name, Not, And, Or, Restriction}
use Rattle.tableau.specs.declared.Label.{Label}
use Rattle.tableau.specs.declared.Entry.{Entry}
use Rattle.tableau.specs.declared.Entry.TheVariants.{Plain, Inclusion, Inclusions}
use Rattle.tableau.specs.Folds.{fold}
use Rattle.tableau.specs.Labels.{in_label, put}
use Rattle.tableau.specs.Entries.{Table}

-- no individual has the entry with the sign: nothing with +, everything with -
abbrev pub absurd_entry : Entry → Bool → Bool
absurd_entry (Plain Nothing) s = s
absurd_entry (Plain Everything) s = not s
absurd_entry (Plain (Name n)) s = false
absurd_entry (Plain (Not a)) s = false
absurd_entry (Plain (And a b)) s = false
absurd_entry (Plain (Or a b)) s = false
absurd_entry (Plain (Restriction q r a)) s = false
absurd_entry (Inclusion c d) s = false
absurd_entry (Inclusions lo n) s = false

-- the label holds both signs of entry i, or one that no individual has
abbrev pub clash_at : Entry → Label → ℕ → Bool
clash_at e l i = in_label l true i && in_label l false i || in_label l true i && absurd_entry e true || in_label l false i && absurd_entry e false

unfoldable pub clash : Table → Label → Bool
clash B l = any B.width (λ i. clash_at (B.entry i) l i)

-- what an entry that is taken makes of a label: one label, or two alternatives
pub data Ways : Type 0 where
  One : Label → Ways
  Two : Label → Label → Ways

-- nothing is added if an alternative is there (true), else the first is tried before the second
abbrev pub one_of : Bool → Label → Label → Label → Ways
one_of true x y l = One l
one_of false x y l = Two x y

-- what a label that holds the entry with the sign must hold besides
abbrev pub grown : Entry → Bool → Label → Ways
grown (Plain Nothing) s l = One l
grown (Plain Everything) s l = One l
grown (Plain (Name n)) s l = One l
grown (Plain (Not a)) s l = One (put (not s) a l)
grown (Plain (And a b)) true l = One (put true a (put true b l))
grown (Plain (And a b)) false l = one_of (in_label l false a || in_label l false b) (put false a l) (put false b l) l
grown (Plain (Or a b)) true l = one_of (in_label l true a || in_label l true b) (put true a l) (put true b l) l
grown (Plain (Or a b)) false l = One (put false a (put false b l))
grown (Plain (Restriction q r a)) s l = One l
grown (Inclusion c d) true l = one_of (in_label l false c || in_label l true d) (put false c l) (put true d l) l
grown (Inclusion c d) false l = One l
grown (Inclusions lo n) true l = One (fold n (λ k. put true (lo + k)) l)
grown (Inclusions lo n) false l = One l

-- entry k is taken, if the label holds it; a label that holds both signs clashes whatever is added
unfoldable pub taken : Entry → ℕ → Label → Ways
taken e k l = cond (in_label l true k) (grown e true l) (cond (in_label l false k) (grown e false l) (One l))

-- what each way leads to, in order
unfoldable pub branch : (Label → List Label) → Ways → List Label
branch f (One l) = f l
branch f (Two l m) = f l ++ f m

-- the entries below k are taken, the highest first; a result that clashes is left out
unfoldable pub expand : Table → ℕ → Label → List Label
expand B zero l = cond (clash B l) [] (l ∷ [])
expand B (suc k) l = branch (expand B k) (taken (B.entry k) k l)

-- the expansions of a seed, in order of trial
unfoldable pub expansions : Table → Label → List Label
expansions B seed = expand B B.width seed
