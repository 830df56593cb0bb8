use Rattle.std.proofs.Common.{◌≡◌, ◌-◌, ◌^◌, Bool, false, ◌&&◌, sym, ap, ◌∙◌, ⊎_elim}
use Rattle.std.proofs.lemmas.Bool.{cases_lt}
use Rattle.words.specs.Sets.{has}
use Rattle.words.proofs.Words.{has_and, has_not, has_above}
use Rattle.words.proofs.difference.Goals as goal

-- past the last bit both sides are false
past : (x y z : Bool) → x ≡ false → (x && y) ≡ (x && z)
past x y z e = ap (λ b. b && y) e ∙ sym (ap (λ b. b && z) e)

pub returns : goal.returns
returns c = λ j.
    let a = c.args.a in
    let b = c.args.b in
    has_and a ((2 ^ 64 - 1) - b) j
    ∙ ⊎_elim
    (λ lt. ap (λ x. has a j && x) (has_not 64 b j c.ranges.b.fits lt))
    (λ ge. past (has a j) _ _ (has_above 64 a j c.ranges.a.fits ge))
    (cases_lt j 64)
