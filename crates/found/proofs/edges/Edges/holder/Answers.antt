use Rattle.found.proofs.Leading.{holder_some, holder_none}
use Rattle.found.proofs.edges.Edges.holder.Goals as goal

pub returns-in-Some : goal.returns-in-Some
returns-in-Some c =
    let e = c.args.self.now in
    let found = c.in-Some.ensures in
    holder_some e.nodes.now c.args.seed e.few c.in-Some.y c.single.result found.1 found.2 c.single.type_inv c.single.ensures.members

pub returns-in-None : goal.returns-in-None
returns-in-None c = let e = c.args.self.now in holder_none e.nodes.now c.args.seed e.few c.in-None.ensures
