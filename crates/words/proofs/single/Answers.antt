use Rattle.std.proofs.Common.{ap, ◌∙◌}
use Rattle.std.proofs.lemmas.Nat.{one_shl}
use Rattle.words.specs.Sets.{has}
use Rattle.words.proofs.Words.{has_single}
use Rattle.words.proofs.single.Goals as goal

pub returns : goal.returns
returns c =
    let e = one_shl c.args.k 64 c.requires in
    record { value = e; members = λ j. ap (λ n. has n j) e ∙ has_single c.args.k j }
