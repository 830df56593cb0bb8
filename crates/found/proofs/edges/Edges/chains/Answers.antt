use Rattle.std.proofs.Common.{◌++◌, length, drop, length-take, sym, ◌∙◌, arith}
use Rattle.words.specs.Sets.{has}
use Rattle.found.proofs.Spreading.{chains_none, chains_all, front_closed}
use Rattle.found.proofs.edges.Edges.chains.Goals as goal

pub returns-then-not-member : goal.returns-then-not-member
returns-then-not-member c = λ R before.
    let e = c.args.self.now in
    chains_none (length e.nodes.now) 64 (has e.plan.now.marks e.role) R e.few (sym c.member.ensures ∙ c.if-not-member.true)

pub returns : goal.returns
returns c = λ R before.
    let e = c.args.self.now in
    chains_all (length e.nodes.now) (has e.plan.now.marks e.role) R (c.close.new.rows ++ drop (length e.nodes.now) c.args.edges) (sym c.member.ensures ∙ c.if-not-member.false)
    (front_closed (length e.nodes.now) R c.args.edges c.close.new.rows _ (omega (arith, e.few)) (omega (arith, e.few, length-take (length e.nodes.now) c.args.edges)) (c.close.ensures R) before)
