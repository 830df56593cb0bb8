use Rattle.std.proofs.Common.{arith}
use Rattle.words.proofs.Words.{has_none, collected, set_is}
use Rattle.words.proofs.collect.Goals as goal

pub loop-k-init : goal.loop-k-init
loop-k-init g c = record { fits = omega arith; tested = λ j lt. absurd (omega arith); others = λ j l. has_none j }

pub returns-clause-value : goal.returns-clause-value
returns-clause-value g c = λ p t.
    let i = c.loop-k.invariant in
    set_is c.args.n c.loop-k.set p (omega arith) (omega arith)
    (collected c.args.n c.loop-k.set p (λ k lt. t k _ lt (i.tested k (omega arith))) (λ k l. i.others k (omega arith)))
