use Rattle.std.proofs.Common.{◌≡◌, ℕ, true, false, not, ◌||◌, eqb, length, refl, arith, rules}
use Rattle.std.proofs.lemmas.Bool.Decides.{nat_tests}
use Rattle.std.proofs.lemmas.Iterator.{YieldsList-from_slice, IsFirst-from_position}
use Rattle.book.specs.Records.{bad_role}
use Rattle.book.proofs.Positions.{first_where}
use Rattle.book.proofs.read.first_bad_role.Goals as goal

pub returns-clause-value : goal.returns-clause-value
returns-clause-value c =
    let rs = c.args.roles.now in
    let p = λ (role : ℕ). not (eqb role 0 || eqb role 1) in
    first_where rs (length rs) 0 p (bad_role rs) refl (λ k l. grind (arith, nat_tests)) _
    (IsFirst-from_position _ _ _ (λ x. p x ≡ true) (λ x. p x ≡ false) c.position.ensures.ran (YieldsList-from_slice rs cc) (λ x q e. search rules) (λ x q e. search rules))
