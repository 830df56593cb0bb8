-- The parts of a book laid end to end are the book.
use Rattle.std.proofs.Common.{◌≡◌, ℕ, ◌+◌, ◌-◌, ◌<◌, ◌≤◌, List, [], ◌∷◌, ◌++◌, length, drop, sym, refl, ap, ◌∙◌, subst, ⊎_elim, arith}
use Rattle.std.proofs.lemmas.List.{take-append-drop, drop-drop, drop_all, length-take-le, length-drop}
use Rattle.std.proofs.lemmas.Bool.{lt-ltb, le-ltb, cases_lt}
use Rattle.denial.specs.Denials.{Answer, granted, denied, and_then}
use Rattle.denial.specs.declared.Report.{Report}
use Rattle.book.specs.declared.trailer.Layout.{Layout}
use Rattle.book.specs.Sections.{Sections}
use Rattle.book.specs.Layouts.{laying, layout_of, Laid}
use Rattle.book.specs.Reading.{cut, reading, checking, sections_of}
use Rattle.book.specs.Pieces.{Kind, Piece, piece, note_at, of_note, Span, spans, pieces_from, parts_of, EndToEnd, Tiles}
use Rattle.book.proofs.Layouting.{laid_from}

module _ (bytes : List ℕ) where
  -- one piece, and the pieces after it
  one_more : (k : Kind) (at n : ℕ) (ps : List Piece) → at + n ≤ length bytes → EndToEnd (at + n) ps (drop (at + n) bytes)
      → EndToEnd at (piece k at (cut bytes at n) ∷ ps) (drop at bytes)
  one_more k at n ps h e =
      let size : length (cut bytes at n) ≡ n = length-take-le n (drop at bytes) (omega (arith, length-drop at bytes)) in (
        drop (at + n) bytes,
        refl,
        sym (take-append-drop n (drop at bytes)) ∙ ap (λ r. cut bytes at n ++ r) (drop-drop n at bytes),
        subst (λ m. EndToEnd (at + m) ps (drop (at + n) bytes)) (sym size) e,
      )

  -- a note, if there is one, and the pieces after it
  note_more : (at j : ℕ) (ps : List Piece) → at ≤ j → j ≤ length bytes → EndToEnd j ps (drop j bytes)
      → EndToEnd at (note_at bytes at j ++ ps) (drop at bytes)
  note_more at j ps l h e = ⊎_elim
      (λ (less : at < j).
      let there : at + (j - at) ≡ j = omega arith in
      rw (lt-ltb at j less)
      (one_more of_note at (j - at) ps (omega arith) (subst (λ m. EndToEnd m ps (drop m bytes)) (sym there) e)))
      (λ more. let same : j ≡ at = omega arith in rw (le-ltb at j more) (subst (λ m. EndToEnd m ps (drop m bytes)) same e))
      (cases_lt at j)

  -- the parts lie one after the other from `at` on, within the bytes and to their end
  abbrev InOrder : ℕ → List Span → Type 0
  InOrder at [] = length bytes ≤ at
  InOrder at (s ∷ rest) = (at ≤ s.place) × (s.place + s.size ≤ length bytes) × InOrder (s.place + s.size) rest

  all_tile : (at : ℕ) (ss : List Span) → InOrder at ss → EndToEnd at (pieces_from bytes at ss) (drop at bytes)
  all_tile at [] o = drop_all at bytes o
  all_tile at (s ∷ rest) o =
      note_more at s.place _ o.0 (omega (arith, o.1)) (one_more s.kind s.place s.size _ o.1 (all_tile (s.place + s.size) rest o.2))

  tiled : (l : Layout) → Laid (length bytes) l → EndToEnd 0 (pieces_from bytes 0 (spans bytes l)) bytes
  tiled l g = all_tile 0 (spans bytes l) (
    omega arith,
    omega arith,
    (g.roles_end, omega arith, (g.pairs_end, omega arith, (g.concepts_end, omega arith, (omega arith, omega arith, omega arith)))),
  )

  -- a book that is read has a layout
  layout_of_read : (s : Sections) → reading bytes ≡ granted s → Laid (length bytes) (layout_of bytes)
  unfolding reading
  layout_of_read s e = go (laying bytes) refl e
    where
      go : (a : Answer Layout) → laying bytes ≡ a → and_then a (λ l. checking l (sections_of bytes l)) ≡ granted s → Laid (length bytes) (layout_of bytes)
      go (granted l) f h = (laid_from bytes l f).1
      go (denied r) f h = absurd (let z : ◌≡◌ {A = ℕ} 0 1 = cc in omega arith)

  pub parts_of_read : (s : Sections) → reading bytes ≡ granted s → parts_of bytes ≡ pieces_from bytes 0 (spans bytes (layout_of bytes))
  unfolding parts_of
  parts_of_read s e = rw e

  pub parts_of_refused : (r : Report) → denied r ≡ reading bytes → [] ≡ parts_of bytes
  unfolding parts_of
  parts_of_refused r e = rw (← e)

  pub tiles : (ps : List Piece) → ps ≡ parts_of bytes → Tiles bytes ps
  tiles ps e s r = subst (λ ps. EndToEnd 0 ps bytes) (sym (e ∙ parts_of_read s r)) (tiled (layout_of bytes) (layout_of_read s r))
