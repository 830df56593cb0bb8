use Rattle.std.proofs.Common.{sym, ap, ◌∙◌}
use Rattle.words.specs.Sets.{has}
use Rattle.meaning.specs.Worlds.{denotes}
use Rattle.meaning.specs.declared.Concept.TheVariants.{Restriction}
use Rattle.sheet.proofs.Sets.{set_tested, exists_is, forall_is, none_is}
use Rattle.sheet.proofs.judgement.meets.Goals as goal

pub returns-in-Exists : goal.returns-in-Exists
returns-in-Exists g c =
    let W = g.W.World.interpretation c.args.world.now in
    exists_is W.size (W.joins c.args.r c.args.x) c.args.part c.successors-row.result c.disjoint.result
    (c.successors-row.ensures ∙ set_tested W.size c.args.x W.size (W.joins c.args.r c.args.x) c.requires) c.disjoint.ensures.members
    ∙ sym (ap (λ q. denotes W (Restriction q c.args.r 0) (λ a. has c.args.part) c.args.x) c.in-Exists.is)

pub returns-in-Forall : goal.returns-in-Forall
returns-in-Forall g c =
    let W = g.W.World.interpretation c.args.world.now in
    forall_is W.size (W.joins c.args.r c.args.x) c.args.part c.successors-row.result c.subset.result
    (c.successors-row.ensures ∙ set_tested W.size c.args.x W.size (W.joins c.args.r c.args.x) c.requires) c.subset.ensures.members
    ∙ sym (ap (λ q. denotes W (Restriction q c.args.r 0) (λ a. has c.args.part) c.args.x) c.in-Forall.is)

pub returns-in-NoneOf : goal.returns-in-NoneOf
returns-in-NoneOf g c =
    let W = g.W.World.interpretation c.args.world.now in
    none_is W.size (W.joins c.args.r c.args.x) c.args.part c.successors-row.result c.disjoint-in-NoneOf.result
    (c.successors-row.ensures ∙ set_tested W.size c.args.x W.size (W.joins c.args.r c.args.x) c.requires) c.disjoint-in-NoneOf.ensures.members
    ∙ sym (ap (λ q. denotes W (Restriction q c.args.r 0) (λ a. has c.args.part) c.args.x) c.in-NoneOf.is)
