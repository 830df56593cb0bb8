use Rattle.std.proofs.Common.{◌≡◌, sym, ap, ◌∙◌}
use Rattle.book.specs.Pieces.{spans, pieces_from, parts_of}
use Rattle.book.proofs.Layouting.{laid_from}
use Rattle.book.proofs.Tiling.{tiles, parts_of_read, parts_of_refused}
use Rattle.book.proofs.parts.Parts.new.Goals as goal

pub returns-in_default : goal.returns-in_default
returns-in_default c =
    let bs = c.args.bytes.now in
    let none = parts_of_refused bs _ c.in_default.ensures.value in
    record { parts = none; tiles = tiles bs _ none }

pub returns : goal.returns
returns c =
    let bs = c.args.bytes.now in
    let all : pieces_from bs 0 (spans bs c.in-Ok.lent.layout) ≡ parts_of bs =
    ap (λ l. pieces_from bs 0 (spans bs l)) (laid_from bs c.in-Ok.lent.layout (sym c.in-Ok.ensures.granted)).0
    ∙ sym (parts_of_read bs _ (sym c.in-Ok.ensures.value)) in
    record { parts = all; tiles = tiles bs _ all }
