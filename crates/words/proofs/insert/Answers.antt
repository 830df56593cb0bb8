use Rattle.std.proofs.Common.{◌||◌, ap, ◌∙◌}
use lib.Bits.{bit_or, or_comm}
use Rattle.words.specs.Sets.{has}
use Rattle.words.proofs.Words.{has_or}
use Rattle.words.proofs.insert.Goals as goal

pub returns : goal.returns
returns c =
    let w = c.args.w in
    let s = c.single.result in
    record {
      value = ap (λ n. bit_or w n) c.single.ensures.value;
      members = λ j. ap (λ n. has n j) (or_comm w s) ∙ has_or s w j ∙ ap (λ b. b || has w j) (c.single.ensures.members j);
    }
