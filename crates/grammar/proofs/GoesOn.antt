-- Lines that go on after a call.
use Rattle.std.proofs.Common.{◌≡◌, ◌≢◌, ℕ, List, [], codes, cond, sym, ap, ◌∙◌}
use Rattle.std.specs.Str.{bytes_eq}
use Rattle.grammar.specs.Items.{first_item, other_items}
use Rattle.grammar.specs.Spelling.{Spells, SpellsBook, SpellsWorld, SpellsAction}
use Rattle.grammar.specs.declared.Call.{Call}
use Rattle.grammar.specs.declared.Call.TheVariants.{Book, Sheet, AskBook, AskWorld, Open, Register, Relation, Classes}
use Rattle.grammar.specs.declared.BookQuestion.{BookQuestion}
use Rattle.grammar.specs.declared.BookQuestion.TheVariants.{Read, Parts, Below, Transitive}
use Rattle.grammar.specs.declared.WorldQuestion.{WorldQuestion}
use Rattle.grammar.specs.declared.WorldQuestion.TheVariants.{Judge, Keeps}
use Rattle.grammar.specs.declared.Action.{Action}
use Rattle.grammar.specs.declared.Action.TheVariants.{File, Ask, Show}

-- what is left of a text after the items of a call that starts with the word: "show" and four, "c" and two, or "classes"
abbrev left : List ℕ → List ℕ → List ℕ
left word text =
    cond (bytes_eq word (codes "show")) (other_items (other_items (other_items (other_items (other_items text)))))
    (cond (bytes_eq word (codes "c")) (other_items (other_items (other_items text)))
    (cond (bytes_eq word (codes "classes")) (other_items text) []))

starts : (text word : List ℕ) → first_item text ≡ word → left (first_item text) text ≡ left word text
starts text word e = ap (λ w. left w text) e

book_ends : (text : List ℕ) (q : BookQuestion) → SpellsBook text q → left (first_item text) text ≡ []
book_ends text Read s = starts text (codes "read") s.0
book_ends text Parts s = starts text (codes "parts") s.0
book_ends text (Below h r t) s = starts text (codes "below") s.0
book_ends text (Transitive h r) s = starts text (codes "transitive") s.0

world_ends : (text : List ℕ) (q : WorldQuestion) → SpellsWorld text q → left (first_item text) text ≡ []
world_ends text (Judge entry) s = starts text (codes "judge") s.0
world_ends text (Keeps base) s = starts text (codes "keeps") s.0

action_ends : (text : List ℕ) (a : Action) (nodes : ℕ) → SpellsAction text a nodes → left (first_item text) text ≡ []
action_ends text (File entry) nodes s = starts text (codes "file") s.0
action_ends text (Ask a b) nodes s = starts text (codes "ask") s.0
action_ends text (Show a b words) nodes s = starts text (codes "show") s.0 ∙ s.1.1.1.1.1

-- after the items of a call that a text spells nothing is left
ends : (text : List ℕ) (call : Call) → Spells text call → left (first_item text) text ≡ []
ends text (Book hex) s = starts text (codes "book") s.0
ends text (Sheet count words) s = starts text (codes "sheet") s.0
ends text (AskBook q) s = book_ends text q s
ends text (AskWorld q) s = world_ends text q s
ends text (Open base) s = starts text (codes "open") s.0
ends text (Register call) s = action_ends text call.action call.nodes s.0
ends text (Relation first second) s = starts text (codes "c") s.0 ∙ s.1.1.1
ends text Classes s = starts text (codes "classes") s.0 ∙ s.1

-- no call is spelled by a text of more than five items that starts with "show"
pub shows_too_much : (text : List ℕ) → first_item text ≡ codes "show" → other_items (other_items (other_items (other_items (other_items text)))) ≢ [] → (call : Call) → Spells text call → ⊥
shows_too_much text named more call s = more (sym (starts text (codes "show") named) ∙ ends text call s)

-- nor by one of more than three items that starts with "c"
pub relates_too_much : (text : List ℕ) → first_item text ≡ codes "c" → other_items (other_items (other_items text)) ≢ [] → (call : Call) → Spells text call → ⊥
relates_too_much text named more call s = more (sym (starts text (codes "c") named) ∙ ends text call s)

-- nor by one of more than one item that starts with "classes"
pub lists_too_much : (text : List ℕ) → first_item text ≡ codes "classes" → other_items text ≢ [] → (call : Call) → Spells text call → ⊥
lists_too_much text named more call s = more (sym (starts text (codes "classes") named) ∙ ends text call s)
