use Rattle.std.proofs.Common.{◌/◌, length, sym, ap, ◌∙◌, arith}
use Rattle.words.specs.Sets.{has}
use Rattle.roles.specs.Closure.{Leads}
use Rattle.roles.proofs.Rounds.{round_above, round_keeps, round_in, round_ends, leads_step}
use Rattle.roles.proofs.reach.reach.Goals as goal

pub returns-then-more-set : goal.returns-then-more-set
returns-then-more-set c =
    round_ends c.args.pairs.now c.args.r c.rounds.set c.rounds.invariant.1 c.rounds.invariant.2
    (sym c.round-more.ensures ∙ c.if-more-set.true)

pub rounds-smaller : goal.rounds-smaller
rounds-smaller c =
    let pairs = c.args.pairs.now in
    omega (arith, round_above pairs (length pairs / 2) c.rounds.set, c.round-more.ensures, c.if-more-set.false, c.round-more.type_inv)

pub rounds-preserved : goal.rounds-preserved
rounds-preserved c =
    let pairs = c.args.pairs.now in
    let r = c.args.r in
    let is = c.round-more.ensures in (
      c.round-more.type_inv,
      ap (λ w. has w r) is ∙ round_keeps pairs (length pairs / 2) c.rounds.set r c.rounds.invariant.1,
      λ s e. round_in pairs (Leads pairs r) (leads_step pairs r) (length pairs / 2) c.rounds.set (omega arith) c.rounds.invariant.2 s
          (sym (ap (λ w. has w s) is) ∙ e),
    )
