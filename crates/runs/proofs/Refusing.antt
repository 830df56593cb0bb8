-- A call that is refused leaves the classes and the lent words as they were.
use Rattle.std.proofs.Common.{◌≡◌, ℕ, ◌+◌, not, eqb, ltb, leb, List, [], ◌∷◌, ◌++◌, length, Some, None, Option, Ok, Err, Result, refl, arith}
use Rattle.std.proofs.lemmas.Bool.{cond_both}
use Rattle.denial.specs.declared.Denial.{Denial}
use Rattle.denial.specs.declared.Report.{Report}
use Rattle.tableau.specs.declared.Label.{Label}
use Rattle.tableau.specs.Search.{Outcome, failed, full, stands}
use Rattle.sheet.specs.Sheets.{needed}
use Rattle.runs.specs.Setups.{Setup, apart}
use Rattle.runs.specs.Steps.{file, ask, show, class, refused, refusal, most, Filed, filed, filed_at, placing, Showed, showed_world, showed_second, showed_first, showing, file_step, show_step, given}
use Rattle.runs.specs.Runs.{RefusalsChangeNothing}
use Rattle.runs.proofs.Filing.{next_cases}

-- where the reply is a refusal the classes are these
abbrev Unfiled : List ℕ → Filed → Type 0
Unfiled cs f = (r : Report) → f.reply ≡ refused r → f.classes ≡ cs

-- and the words these
abbrev Unshown : List ℕ → Showed → Type 0
Unshown words s = (r : Report) → s.reply ≡ refused r → s.sheet ≡ words

-- another reply is no refusal
unlike : {A : Type 0} (p : ℕ) (r : Report) → class p ≡ refused r → A
unlike p r e = absurd (let z : ◌≡◌ {A = ℕ} 0 1 = cc in omega arith)

unfiled_at : (cs : List ℕ) (e : ℕ) (o : Result (Option ℕ) Denial) → Unfiled cs (filed_at cs e o)
unfiled_at cs e (Ok (Some k)) = λ r x. refl
unfiled_at cs e (Ok None) =
    cond_both (ltb (length cs) most) (filed (class (length cs + 1)) (cs ++ e ∷ [])) (filed (refusal 14 most) cs) (Unfiled cs)
    (λ t r x. unlike (length cs + 1) r x) (λ t r x. refl)
unfiled_at cs e (Err d) = λ r x. refl

unfiled : (S : Setup) (cs : List ℕ) (e n : ℕ) → Unfiled cs (file_step S cs e n)
unfiled S cs e n =
    next_cases (Unfiled cs) (not (ltb e S.entries)) (filed (refusal 8 e) cs) (λ u. filed_at cs e (placing S cs e n))
    (λ t r x. refl) (λ t. unfiled_at cs e (placing S cs e n))

unshown_world : (S : Setup) (words : List ℕ) (side : ℕ) (ls : List Label) → Unshown words (showed_world S words side ls)
unshown_world S words side ls =
    cond_both (leb (length ls) 64) _ _ (Unshown words)
    (λ t. cond_both (leb (needed S.roles (length ls)) (length words)) _ _ (Unshown words)
    (λ u r x. absurd (let z : ◌≡◌ {A = ℕ} 0 1 = cc in omega arith)) (λ u r x. refl))
    (λ t r x. refl)

unshown_second : (S : Setup) (a : ℕ) (words : List ℕ) (o : Outcome) → Unshown words (showed_second S a words o)
unshown_second S a words failed = λ r x. refl
unshown_second S a words full = λ r x. refl
unshown_second S a words (stands ls) = unshown_world S words 2 ls

unshown_first : (S : Setup) (a : ℕ) (words : List ℕ) (o : Outcome) (second : Unit {0} → Outcome) → Unshown words (showed_first S a words o second)
unshown_first S a words failed second = unshown_second S a words (second tt)
unshown_first S a words full second = λ r x. refl
unshown_first S a words (stands ls) second = unshown_world S words 1 ls

unshown : (S : Setup) (cs : List ℕ) (a b n : ℕ) (words : List ℕ) → Unshown words (show_step S cs a b n words)
unfolding showing
unshown S cs a b n words =
    next_cases (Unshown words) (not (given cs a)) _ _ (λ t r x. refl)
    (λ t. next_cases (Unshown words) (not (given cs b)) _ _ (λ u r x. refl)
    (λ u. next_cases (Unshown words) (eqb a b) _ _ (λ v r x. refl)
    (λ v. unshown_first S a words (apart S cs a b n) (λ u. apart S cs b a n))))

pub refusals_change_nothing : RefusalsChangeNothing
refusals_change_nothing S cs (file e n) r x = (unfiled S cs e n r x, refl)
refusals_change_nothing S cs (ask a b n) r x = (refl, refl)
refusals_change_nothing S cs (show a b n words) r x = (refl, unshown S cs a b n words r x)
