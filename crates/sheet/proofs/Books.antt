-- What a book that was read is good for: its names are ones that a world can be asked for.
use Rattle.std.proofs.Common.{◌≡◌, ℕ, ◌<◌, refl}
use Rattle.meaning.specs.declared.Concept.{Concept}
use Rattle.meaning.specs.declared.Concept.TheVariants.{Nothing, Everything, Name, Not, And, Or, Restriction}
use Rattle.book.specs.declared.Book.{Book}
use Rattle.book.specs.Sections.{says}
use Rattle.book.specs.Views.{view}
use Rattle.book.proofs.Soundness.{book_sound}
use Rattle.sheet.specs.Judgements.{Asked}

pub asked : (b : Book) (i : ℕ) → i < (says (view b)).entries → Asked ((says (view b)).concept i)
asked b i l = go ((says (view b)).concept i) refl
  where
    go : (c : Concept) → (says (view b)).concept i ≡ c → Asked c
    go Nothing e = tt
    go Everything e = tt
    go (Name n) e = (book_sound b).names_in i n l e
    go (Not a) e = tt
    go (And a b) e = tt
    go (Or a b) e = tt
    go (Restriction q r a) e = tt
