-- How a line spells a call.
use Rattle.std.specs.Prelude.{◌≡◌, ◌≤◌, ℕ, List, [], codes, Some}
use Rattle.questions.specs.Questions.{name_of_base, name_of_source}
use Rattle.grammar.specs.Items.{first_item, other_items, Writes}
use Rattle.grammar.specs.declared.Call.{Call}
use Rattle.grammar.specs.declared.Call.TheVariants.{Book, Sheet, AskBook, AskWorld, Open, Register, Relation, Classes}
use Rattle.grammar.specs.declared.BookQuestion.{BookQuestion}
use Rattle.grammar.specs.declared.BookQuestion.TheVariants.{Read, Parts, Below, Transitive}
use Rattle.grammar.specs.declared.WorldQuestion.{WorldQuestion}
use Rattle.grammar.specs.declared.WorldQuestion.TheVariants.{Judge, Keeps}
use Rattle.grammar.specs.declared.Action.{Action}
use Rattle.grammar.specs.declared.Action.TheVariants.{File, Ask, Show}

-- the text is the item and nothing more
abbrev pub Ends : List ℕ → List ℕ → Type 0
Ends text item = (first_item text ≡ item) × (other_items text ≡ [])

-- the text starts with the item, and what follows it is as P says
abbrev pub Goes : List ℕ → List ℕ → (List ℕ → Type 0) → Type 0
Goes text item P = (first_item text ≡ item) × P (other_items text)

-- the text is a number and nothing more
abbrev pub EndsNumber : ℕ → List ℕ → Type 0
EndsNumber n text = Writes (first_item text) (Some n) × (other_items text ≡ [])

-- the text starts with a number, and what follows it is as P says
abbrev pub GoesNumber : ℕ → (List ℕ → Type 0) → List ℕ → Type 0
GoesNumber n P text = Writes (first_item text) (Some n) × P (other_items text)

abbrev pub SpellsBook : List ℕ → BookQuestion → Type 0
SpellsBook text Read = Ends text (codes "read")
SpellsBook text Parts = Ends text (codes "parts")
SpellsBook text (Below h r s) = Goes text (codes "below") (λ t. Goes t (name_of_source h) (GoesNumber r (EndsNumber s)))
SpellsBook text (Transitive h r) = Goes text (codes "transitive") (λ t. Goes t (name_of_source h) (EndsNumber r))

abbrev pub SpellsWorld : List ℕ → WorldQuestion → Type 0
SpellsWorld text (Judge entry) = Goes text (codes "judge") (EndsNumber entry)
SpellsWorld text (Keeps base) = Goes text (codes "keeps") (λ t. Ends t (name_of_base base))

-- an action, with the number of the nodes that it is lent
abbrev pub SpellsAction : List ℕ → Action → ℕ → Type 0
SpellsAction text (File entry) nodes = Goes text (codes "file") (GoesNumber entry (EndsNumber nodes))
SpellsAction text (Ask a b) nodes = Goes text (codes "ask") (GoesNumber a (GoesNumber b (EndsNumber nodes)))
SpellsAction text (Show a b words) nodes = Goes text (codes "show") (GoesNumber a (GoesNumber b (GoesNumber nodes (EndsNumber words))))

-- a line without the white space at its ends spells the call
abbrev pub Spells : List ℕ → Call → Type 0
Spells text (Book hex) = Goes text (codes "book") (λ t. hex.now ≡ t)
Spells text (Sheet count words) = Goes text (codes "sheet") (GoesNumber count (λ t. words.now ≡ t))
Spells text (AskBook q) = SpellsBook text q
Spells text (AskWorld q) = SpellsWorld text q
Spells text (Open base) = Goes text (codes "open") (λ t. Ends t (name_of_base base))
Spells text (Register call) = SpellsAction text call.action call.nodes × (call.nodes ≤ 16777216)
Spells text (Relation first second) = Goes text (codes "c") (GoesNumber first (EndsNumber second))
Spells text Classes = Ends text (codes "classes")
