use Rattle.std.proofs.Common.{length, replicate, ap, ◌∙◌, arith, length-drop, length-take}
use Rattle.search.specs.Nodes.{blank}
use Rattle.search.proofs.Resume.{done_fail}
use Rattle.search.proofs.Steps.{blank_all, newest_none, went_back}
use Rattle.search.proofs.retreat.Goals as goal

pub returns-in_default : goal.returns-in_default
returns-in_default c = λ G B. (
  done_fail G (length c.args.nodes.now) c.args.nodes.now c.args.m c.requires.within (newest_none c.args.nodes.now c.args.m c.requires.within c.in_default.ensures),
  blank_all _ _ c.wipe_first.ensures,
)

pub returns : goal.returns
returns c = λ G B.
    went_back G B c.args.nodes.now c.args.m c.requires.within c.requires.blanks c.in-Some.p c.in-Some.field-0-1 c.in-Some.ensures
    c.wipe_first-2.new.nodes
    (c.wipe_first-2.ensures ∙ ap (λ n. replicate n blank) (simp (length-take, length-drop) (omega arith)))
