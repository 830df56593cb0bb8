use Rattle.std.proofs.Common.{ltb, get_or, sym, ap, ◌∙◌, subst}
use Rattle.words.specs.Sets.{has, set_of}
use Rattle.meaning.specs.Worlds.{denotes}
use Rattle.sheet.specs.Judgements.{Asked}
use Rattle.sheet.proofs.Sets.{set_tested, none_set, every_set, not_set, and_set, or_set}
use Rattle.sheet.proofs.judgement.extension.Goals as goal

pub returns-in-Nothing : goal.returns-in-Nothing
returns-in-Nothing g c =
    let W = g.W.World.interpretation c.args.world.now in
    none_set W.size (g.met.W.World.sized c.args.world.now).few
    ∙ sym (ap (λ k. set_of W.size (denotes W k (λ a. has (get_or c.args.sets.now a 0)))) c.in-Nothing.is)

pub returns-in-Everything : goal.returns-in-Everything
returns-in-Everything g c =
    let W = g.W.World.interpretation c.args.world.now in
    every_set W.size c.below-all.result (g.met.W.World.sized c.args.world.now).few c.below-all.type_inv
    (λ j. c.below-all.ensures.members j ∙ ap (λ m. ltb j m) c.individuals.ensures)
    ∙ sym (ap (λ k. set_of W.size (denotes W k (λ a. has (get_or c.args.sets.now a 0)))) c.in-Everything.is)

pub returns-in-Name : goal.returns-in-Name
returns-in-Name g c =
    let W = g.W.World.interpretation c.args.world.now in
    let n = c.in-Name.n in
    c.bearers.ensures
    ∙ set_tested W.size n 64 (λ x. W.bears x n) (subst Asked c.in-Name.is c.requires.asked)
    ∙ sym (ap (λ k. set_of W.size (denotes W k (λ a. has (get_or c.args.sets.now a 0)))) c.in-Name.is)

pub returns-in-Not : goal.returns-in-Not
returns-in-Not g c =
    let W = g.W.World.interpretation c.args.world.now in
    not_set W.size c.difference.result c.below-all.result (get_or c.args.sets.now c.in-Not.a 0)
    (g.met.W.World.sized c.args.world.now).few c.difference.type_inv
    (λ j. c.below-all.ensures.members j ∙ ap (λ m. ltb j m) c.individuals.ensures) c.difference.ensures
    ∙ sym (ap (λ k. set_of W.size (denotes W k (λ a. has (get_or c.args.sets.now a 0)))) c.in-Not.is)

pub returns-in-And : goal.returns-in-And
returns-in-And g c =
    let W = g.W.World.interpretation c.args.world.now in
    and_set W.size c.intersection.result (get_or c.args.sets.now c.in-And.a 0) (get_or c.args.sets.now c.in-And.b 0)
    (g.met.W.World.sized c.args.world.now).few c.intersection.type_inv (c.requires.inside c.in-And.a) c.intersection.ensures.members
    ∙ sym (ap (λ k. set_of W.size (denotes W k (λ a. has (get_or c.args.sets.now a 0)))) c.in-And.is)

pub returns-in-Or : goal.returns-in-Or
returns-in-Or g c =
    let W = g.W.World.interpretation c.args.world.now in
    or_set W.size c.union.result (get_or c.args.sets.now c.in-Or.a 0) (get_or c.args.sets.now c.in-Or.b 0)
    (g.met.W.World.sized c.args.world.now).few c.union.type_inv (c.requires.inside c.in-Or.a) (c.requires.inside c.in-Or.b) c.union.ensures.members
    ∙ sym (ap (λ k. set_of W.size (denotes W k (λ a. has (get_or c.args.sets.now a 0)))) c.in-Or.is)
