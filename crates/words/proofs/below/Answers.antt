use Rattle.std.proofs.Common.{◌≡◌, ◌-◌, ◌^◌, ◌<◌, ltb, sym, ap, ◌∙◌, arith}
use Rattle.std.proofs.lemmas.Nat.{one_shl}
use Rattle.words.specs.Sets.{has}
use Rattle.words.proofs.Words.{has_below}
use Rattle.words.proofs.below.Goals as goal

pub returns-then-n-eq64 : goal.returns-then-n-eq64
returns-then-n-eq64 c =
    let e : c.args.n ≡ 64 = c.if-n-eq64.true in
    record { value = sym (ap (λ n. 2 ^ n - 1) e); members = λ j. has_below 64 j ∙ ap (λ n. ltb j n) (sym e) }

pub returns-else-n-eq64 : goal.returns-else-n-eq64
returns-else-n-eq64 c =
    let lt : c.args.n < 64 = omega (arith, c.requires, c.if-n-eq64.false) in
    let e = ap (λ n. n - 1) (one_shl c.args.n 64 lt) in
    record { value = e; members = λ j. ap (λ n. has n j) e ∙ has_below c.args.n j }
