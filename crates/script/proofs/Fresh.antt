-- Opening a register on a book.
use Rattle.std.proofs.Common.{◌≡◌, ℕ, List, [], IfOk, Ok, Err, Result, ap, ◌∙◌}
use Rattle.denial.specs.Denials.{Answer, granted, and_then, answer, denial_report}
use Rattle.denial.specs.declared.Denial.{Denial}
use Rattle.meaning.specs.Orders.{RoleBox}
use Rattle.book.specs.Sections.{Sections, says}
use Rattle.roles.specs.Hierarchies.{roles_of}
use Rattle.plan.specs.Building.{verdict}
use Rattle.runs.specs.Setups.{Setup, setup}
use Rattle.register.specs.declared.Register.{Register}
use Rattle.register.specs.Registers.{setup_of, classes_of, opening}
use Rattle.script.specs.Registers.{opened_at}
use Rattle.script.specs.Sessions.{Opened, opening_on}

abbrev with_classes : Setup → List ℕ → Answer Opened
with_classes S cs = granted (record { setup = S; classes = cs })

-- a register that is opened under a hierarchy that says what the book's own says
pub opened_same : (H : RoleBox) (s : Sections) (r : Result Register Denial) → H ≡ roles_of s → answer opening denial_report r ≡ verdict H (says s)
    → IfOk r (λ g. setup_of g ≡ setup H (says s)) → IfOk r (λ g. classes_of g ≡ []) → answer opened_at denial_report r ≡ opening_on s
opened_same H s (Ok g) same a b c =
    ap (λ (S : Setup). with_classes S (classes_of g)) (b ∙ ap (λ B. setup B (says s)) same)
    ∙ ap (λ (cs : List ℕ). with_classes (setup (roles_of s) (says s)) cs) c
    ∙ ap (λ (v : Answer (Unit {0})). and_then v (λ opened. with_classes (setup (roles_of s) (says s)) [])) (a ∙ ap (λ B. verdict B (says s)) same)
opened_same H s (Err d) same a b c =
    ap (λ (v : Answer (Unit {0})). and_then v (λ opened. with_classes (setup (roles_of s) (says s)) [])) (a ∙ ap (λ B. verdict B (says s)) same)
