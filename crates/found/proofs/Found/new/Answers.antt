use Rattle.std.proofs.Common.{◌≤◌, length, sym, arith}
use Rattle.std.proofs.lemmas.Bool.{eqb-false}
use Rattle.found.proofs.Agreeing.{agrees}
use Rattle.found.proofs.Found.new.Goals as goal

pub returns-clause-world : goal.returns-clause-world
returns-clause-world c =
    let some : 1 ≤ length c.args.nodes.now = omega (arith, eqb-false (length c.args.nodes.now) 0 (sym c.if-is_empty.ensures)) in
    agrees c.args.plan.now c.args.nodes.now c.roles.result c.names.result c.table.result some (omega arith) c.args.plan.now.few_roles c.roles.ensures c.names.ensures c.table.ensures
