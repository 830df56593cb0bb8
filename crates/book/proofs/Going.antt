-- A step through the parts that are left: a note where there are bytes before the first, else the first.
use Rattle.std.proofs.Common.{◌≡◌, ℕ, ◌+◌, ◌-◌, ◌<◌, ◌≤◌, List, [], ◌∷◌, refl, ap, ◌∙◌, subst, arith}
use Rattle.std.proofs.lemmas.Bool.{lt-ltb, le-ltb}
use Rattle.book.specs.Reading.{cut}
use Rattle.book.specs.Pieces.{piece, of_note, Span, pieces_from, first_span}

module _ (bytes : List ℕ) (at : ℕ) where
  pub note_first : (ss : List Span) (place : ℕ) → place ≡ (first_span ss).0 → at < place
      → pieces_from bytes at ss ≡ piece of_note at (cut bytes at (place - at)) ∷ pieces_from bytes place ss
  note_first [] place e l = absurd (omega arith)
  note_first (s ∷ rest) place e l = rw e (rw (lt-ltb at s.place (omega arith), le-ltb s.place s.place (omega arith)) refl)

  pub span_first : (ss : List Span) (s : Span) (rest : List Span) (r : ℕ × ℕ) → ss ≡ s ∷ rest → r ≡ first_span ss → r.0 ≤ at
      → pieces_from bytes at ss ≡ piece s.kind r.0 (cut bytes r.0 r.1) ∷ pieces_from bytes (r.0 + r.1) rest
  span_first ss s rest r e f l =
      let is : r ≡ (s.place, s.size) = f ∙ ap first_span e in
      rw (e, is) (rw (le-ltb at s.place (subst (λ (r : ℕ × ℕ). r.0 ≤ at) is l)) refl)
