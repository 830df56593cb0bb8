-- Keeping a book under rows that are its own hierarchy.
use Rattle.std.proofs.Common.{◌≡◌, ℕ, Bool, true, false, cond, not, ◌&&◌, ltb, List, length, get_or, Some, None, Option, Result, sym, refl, ap, ◌∙◌, subst}
use Rattle.denial.specs.Denials.{Answer, granted, denied}
use Rattle.denial.specs.declared.Denial.{Denial}
use Rattle.meaning.specs.Orders.{RoleBox}
use Rattle.book.specs.Sections.{Sections, says}
use Rattle.sheet.specs.Sheets.{needed, sheet_of, unless_stray, refused, lowest_stray, written, sheet_world}
use Rattle.sheet.specs.Keeping.{KeepsAnswer}
use Rattle.roles.specs.Hierarchies.{roles_of}
use Rattle.questions.specs.Questions.{KeptAfter, Kept}

abbrev words_of : List ℕ → Answer (List ℕ) → List ℕ
words_of ws (granted vs) = vs
words_of ws (denied d) = ws

-- the words of a sheet that was made are those that it was made of
made_of : (roles : ℕ) (words ws : List ℕ) → granted ws ≡ sheet_of roles words → ws ≡ words
made_of roles words ws e = ap (words_of words) e ∙ each (not (ltb 0 (get_or words 0 0) && ltb (get_or words 0 0) 65)) (ltb (length words) (needed roles (get_or words 0 0))) (lowest_stray roles words)
  where
    last : (o : Option ℕ) → words_of words (unless_stray words o) ≡ words
    last None = refl
    last (Some k) = refl

    each : (t u : Bool) (o : Option ℕ) → words_of words (cond t (refused 0) (cond u (refused (length words)) (unless_stray words o))) ≡ words
    each true u o = refl
    each false true o = refl
    each false false o = last o

pub kept_under : (H : RoleBox) (s : Sections) (words ws : List ℕ) (roles : ℕ) (r : Result Bool Denial)
    → granted ws ≡ sheet_of (length s.roles) words
    → roles ≡ length s.roles
    → sheet_world roles ws ≡ written roles (get_or words 0 0) words
    → H ≡ roles_of s
    → KeepsAnswer H (says s) (sheet_world roles ws) r
    → Kept s words r
kept_under H s words ws roles r made n world same a =
    let e = made_of (length s.roles) words ws made in
    let W : sheet_world roles ws ≡ written (length s.roles) (get_or ws 0 0) ws =
    world ∙ ap (λ k. written k (get_or words 0 0) words) n ∙ ap (λ vs. written (length s.roles) (get_or vs 0 0) vs) (sym e) in
    let b : KeepsAnswer H (says s) (written (length s.roles) (get_or ws 0 0) ws) r = subst (λ V. KeepsAnswer H (says s) V r) W a in
    subst (λ x. KeptAfter x s r) made (subst (λ G. KeepsAnswer G (says s) (written (length s.roles) (get_or ws 0 0) ws) r) same b)
