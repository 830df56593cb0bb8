-- A rule of a book that was read, against the sets of its entries.
use Rattle.std.proofs.Common.{◌≡◌, ℕ, ◌<◌, Bool, List, get_or, Decides, ap, subst, arith}
use Rattle.words.specs.Sets.{set_of, Within}
use Rattle.meaning.specs.Worlds.{Interpretation, holds}
use Rattle.meaning.specs.Books.{Obeys}
use Rattle.meaning.specs.declared.Rule.{Rule}
use Rattle.book.specs.declared.Book.{Book}
use Rattle.book.specs.Sections.{says}
use Rattle.book.specs.Views.{view}
use Rattle.book.proofs.Soundness.{book_sound}
use Rattle.sheet.proofs.Sets.{decides_within}

module _ (b : Book) (k n : ℕ) (rule : Rule) (inside : k < n) (count : n ≡ (says (view b)).rules) (is : rule ≡ (says (view b)).rule k) where
  in_book : (rule.premise < (says (view b)).entries) × (rule.conclusion < (says (view b)).entries)
  in_book =
      let s = book_sound b in (
        omega (arith, ap (λ r. r.premise) is, s.premises_in k (omega arith)),
        omega (arith, ap (λ r. r.conclusion) is, s.conclusions_in k (omega arith)),
      )

  pub premise_fits : rule.premise < 64
  premise_fits = omega (arith, in_book.0, (book_sound b).few_entries)

  pub conclusion_fits : rule.conclusion < 64
  conclusion_fits = omega (arith, in_book.1, (book_sound b).few_entries)

  -- one set within the other: the world obeys the rule
  pub decides_obeys : (W : Interpretation) (m : ℕ) (sets : List ℕ) (t : Bool) → m ≡ (says (view b)).entries
      → ((i : ℕ) → i < m → get_or sets i 0 ≡ set_of W.size (holds W (says (view b)).concept i))
      → Decides t (Within (get_or sets rule.premise 0) (get_or sets rule.conclusion 0))
      → Decides t (Obeys W (says (view b)).concept ((says (view b)).rule k).premise ((says (view b)).rule k).conclusion)
  decides_obeys W m sets t whole known d =
      subst (λ r. Decides t (Obeys W (says (view b)).concept r.premise r.conclusion)) is
      (decides_within W.size (get_or sets rule.premise 0) (get_or sets rule.conclusion 0)
      (holds W (says (view b)).concept rule.premise) (holds W (says (view b)).concept rule.conclusion) t
      (known rule.premise (omega (arith, in_book.0))) (known rule.conclusion (omega (arith, in_book.1))) d)
