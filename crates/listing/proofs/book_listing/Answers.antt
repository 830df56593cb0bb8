use Rattle.std.proofs.Common.{◌≡◌, IfOk, Ok, Err, Result, vec_items, ap, ◌∙◌, subst}
use Rattle.denial.specs.Denials.{denial_report}
use Rattle.book.specs.Views.{view}
use Rattle.lines.specs.Listings.{line_of_book}
use Rattle.register.specs.Registers.{setup_of, classes_of}
use Rattle.listing.proofs.Opening.{opened_lines, opened_right, refused_line, refused_never}
use Rattle.listing.proofs.book_listing.Goals as goal

-- what follows of a value follows of a result
of_ok : {A E : Type 0} {P Q : A → Type 0} (r : Result A E) → ((x : A) → P x → Q x) → IfOk r P → IfOk r Q
of_ok (Ok x) f h = f x h
of_ok (Err e) f h = tt

pub returns-in-Ok : goal.returns-in-Ok
returns-in-Ok c =
    let s = view c.args.book.now in
    let g = c.in-Ok.register in
    let o = c.in-Ok.ensures in
    let n = c.entry_count.result in
    record {
      lines = subst (λ xs. IfOk c.filed_lines.result (λ v. vec_items v ≡ xs))
          (opened_lines s (setup_of g) (classes_of g) n o.setup o.fresh c.entry_count.ensures o.answer)
          c.filed_lines.ensures;
      right = of_ok c.filed_lines.result (λ v e _. opened_right s (setup_of g) (classes_of g) n o.setup o.fresh c.entry_count.ensures o.right (vec_items v) e) c.filed_lines.ensures;
    }

pub returns-in-Err : goal.returns-in-Err
returns-in-Err c =
    let s = view c.args.book.now in
    let d = denial_report c.in-Err.denial in
    let o = c.in-Err.ensures in
    record {
      lines = subst (λ xs. IfOk c.refused.result (λ v. vec_items v ≡ xs))
          (ap (λ r. line_of_book r.number) c.report.ensures ∙ refused_line s d o.answer)
          c.refused.ensures;
      right = of_ok c.refused.result (λ v e opened. absurd (refused_never s d o.answer opened)) c.refused.ensures;
    }
