use Rattle.std.proofs.Common.{◌≡◌, ◌+◌, ◌*◌, ◌^◌, [], get_or, bit_or, sym, refl, ap, ◌∙◌, arith}
use Rattle.words.specs.Sets.{has}
use Rattle.roles.specs.Rounds.{round_to}
use Rattle.roles.proofs.Rounds.{pair_at, round_adds, round_stays}
use Rattle.roles.proofs.reach.round.Goals as goal
use Rattle.roles.proofs.reach.round.Goals.{In-loop-lower, then-member, else-member}

-- the two roles of the iteration are those of the pair at its index
here : (c : In-loop-lower) → let k = c.loop-lower.lower-index in let pair = get_or c.as_chunks.result.0.now k [] in
    (get_or pair 0 0 ≡ get_or c.args.pairs.now (2 * k) 0) × (get_or pair 1 0 ≡ get_or c.args.pairs.now (2 * k + 1) 0)
here c = pair_at c.args.pairs.now c.as_chunks.result.0.now c.loop-lower.lower-index c.as_chunks.ensures.front (omega (arith, c.as_chunks.ensures.front_len))

pub loop-lower-init : goal.loop-lower-init
unfolding round_to
loop-lower-init c = refl

pub member-requires : goal.member-requires
member-requires c =
    let k = c.loop-lower.lower-index in
    rw (here (goal.at.member-requires c).In-loop-lower).0 (c.requires (2 * k) (omega arith))

pub insert-found-requires : goal.insert-found-requires
insert-found-requires c =
    let k = c.loop-lower.lower-index in
    rw (here (goal.at.insert-found-requires c).In-loop-lower).1 (c.requires (2 * k + 1) (omega arith))

pub loop-lower-preserved : goal.loop-lower-preserved
loop-lower-preserved c =
    let pairs = c.args.pairs.now in
    let k = c.loop-lower.lower-index in
    let found = c.loop-lower.found in
    let pair = here (goal.at.loop-lower-preserved c).In-loop-lower in
    let test = ap (has found) (sym pair.0) ∙ sym c.member.ensures in
    elim c.if-member.branch [
      | then-member w ↦
          round_adds pairs k c.args.set found c.if-member.found c.loop-lower.invariant (test ∙ w.if-member.true)
          (w.found-is ∙ w.insert-found.ensures.value ∙ ap (λ upper. bit_or found (2 ^ upper)) pair.1)
      | else-member w ↦ round_stays pairs k c.args.set found c.if-member.found c.loop-lower.invariant (test ∙ w.if-member.false) w.found-is
    ]
