-- What showing comes to, from what is told of the searches and of the world that was found.
use Rattle.std.proofs.Common.{◌≡◌, ℕ, zero, suc, ◌-◌, ◌<◌, Bool, true, false, cond, ◌&&◌, leb, List, [], length, take, IfOk, IfSome, Some, None, Option, Ok, Err, Result, sym, refl, ap, ◌∙◌, subst, arith}
use lib.ListN.{length-map}
use Rattle.std.proofs.lemmas.Bool.{and_parts, cond-true, cond-false}
use Rattle.denial.specs.Denials.{granted, denied, reported}
use Rattle.denial.specs.declared.Layer.TheVariants.{Register}
use Rattle.meaning.specs.Worlds.{Interpretation, Sized}
use Rattle.meaning.specs.Agreement.{Agree}
use Rattle.sheet.specs.Sheets.{needed}
use Rattle.tableau.specs.declared.Label.{Label}
use Rattle.tableau.specs.Search.{explore}
use Rattle.drawing.specs.Drawings.{drawn_on}
use Rattle.drawing.proofs.Sheets.{drawn_same}
use Rattle.plan.specs.declared.Plan.{Plan}
use Rattle.plan.specs.Meanings.{table_in, box_in}
use Rattle.search.specs.declared.Node.{Node}
use Rattle.search.specs.declared.NoRoom.{NoRoom}
use Rattle.search.specs.Nodes.{labels, label_of, Says}
use Rattle.found.specs.Founds.{found_in, finding}
use Rattle.model.proofs.Same.{find_some}
use Rattle.runs.specs.Steps.{shown, refusal, Showed, showed, showed_world}
use Rattle.register.specs.Registers.{setup_in}

-- a search that stands has a node
pub some_node : (p : Plan) (n : ℕ) (seed : Label) (nodes : List Node) (r : Result (Option ℕ) NoRoom) → Says nodes r (explore (box_in p) (table_in p) n n [] seed)
    → IfOk r (λ found. IfSome found (λ m. 0 < m))
some_node p n seed nodes (Ok None) h = tt
some_node p n seed nodes (Err e) h = tt
some_node p n seed nodes (Ok (Some m)) h = go m (find_some p n seed (labels (take m nodes)) h.0)
  where
    go : (m : ℕ) → 0 < length (labels (take m nodes)) → 0 < m
    go zero l = absurd (omega arith)
    go (suc m) l = omega arith

-- the found world was granted: there are at most 64 nodes
pub found_granted : (nodes xs : List Node) → granted xs ≡ finding nodes → leb (length nodes) 64 ≡ true
found_granted nodes xs e = go (leb 1 (length nodes) && leb (length nodes) 64) refl
  where
    go : (b : Bool) → (leb 1 (length nodes) && leb (length nodes) 64) ≡ b → leb (length nodes) 64 ≡ true
    go true t = (and_parts (leb 1 (length nodes)) (leb (length nodes) 64) t).1
    go false t = absurd (let f : granted xs ≡ denied (reported 17 (length nodes) Register) = e ∙ ap (λ x. cond x (granted nodes) (denied (reported 17 (length nodes) Register))) t in
        let z : ◌≡◌ {A = ℕ} 0 1 = cc in omega arith)

-- What is drawn of a world that agrees with the found one is what a world that was shown leaves on the sheet, which the words
-- suffice for or not.
pub drawn_sheet : (p : Plan) (e : ℕ) (nodes : List Node) (side : ℕ) (words : List ℕ) (W : Interpretation) → Sized W
    → Agree (p.count - 1) W (found_in p (labels nodes)) → leb (length nodes) 64 ≡ true
    → (sheet : List ℕ) → sheet ≡ drawn_on (p.count - 1) W words → sheet ≡ (showed_world (setup_in p e) words side (labels nodes)).sheet
unfolding drawn_on
drawn_sheet p e nodes side words W sized agree fits sheet drawn =
    drawn
    ∙ drawn_same (p.count - 1) W (found_in p (labels nodes)) sized agree words
    ∙ by_words (leb (needed (p.count - 1) (length (labels nodes))) (length words)) refl
    ∙ ap (λ (s : Showed). s.sheet) (sym (cond-true (leb (length (labels nodes)) 64) _ (showed (refusal 17 (length (labels nodes))) words) few))
  where
    few : leb (length (labels nodes)) 64 ≡ true
    few = subst (λ n. leb n 64 ≡ true) (sym (length-map nodes label_of)) fits

    by_words : (b : Bool) → leb (needed (p.count - 1) (length (labels nodes))) (length words) ≡ b
        → drawn_on (p.count - 1) (found_in p (labels nodes)) words
        ≡ (cond (leb (needed (p.count - 1) (length (labels nodes))) (length words))
        (showed (shown (length (labels nodes)) side) (drawn_on (p.count - 1) (found_in p (labels nodes)) words))
        (showed (refusal 11 (needed (p.count - 1) (length (labels nodes)))) words)).sheet
    by_words true t = ap (λ (s : Showed). s.sheet) (sym (cond-true (leb (needed (p.count - 1) (length (labels nodes))) (length words)) _ _ t))
    by_words false t =
        cond-false (leb (needed (p.count - 1) (length (labels nodes))) (length words)) _ words t
        ∙ ap (λ (s : Showed). s.sheet) (sym (cond-false (leb (needed (p.count - 1) (length (labels nodes))) (length words)) _ _ t))
