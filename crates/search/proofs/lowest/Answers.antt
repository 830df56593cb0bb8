use Rattle.std.proofs.Common.{sym, subst, rules}
use borrow.Author.Tests.{tests}
use Rattle.std.proofs.lemmas.Iterator.{YieldsList-from_slice}
use Rattle.std.proofs.lemmas.Iterator.Search.{position_from_yields_List}
use Rattle.search.specs.Nodes.{labels, LowestIn}
use Rattle.search.proofs.Holders.{holds, first_holder}
use Rattle.search.proofs.lowest.Goals as goal

pub returns : goal.returns
returns c =
    subst (LowestIn (labels c.args.nodes.now) c.args.seed)
    (sym (position_from_yields_List (holds c.args.seed) _ _ c.position.result c.position.ensures.ran (YieldsList-from_slice c.args.nodes.now cc) (λ x b q k. search (rules, tests))))
    (first_holder c.args.seed c.args.nodes.now)
