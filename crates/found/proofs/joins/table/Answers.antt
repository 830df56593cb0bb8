use Rattle.found.proofs.Spreading.{table_none, table_more}
use Rattle.found.proofs.joins.table.Goals as goal

pub loop-role-init : goal.loop-role-init
loop-role-init c = table_none c.args.plan.now c.args.nodes.now 4096 c.requires

pub loop-role-preserved : goal.loop-role-preserved
loop-role-preserved c =
    table_more c.args.plan.now c.args.nodes.now c.loop-role.role c.loop-role.table c.add.new.table c.requires c.add.ensures c.loop-role.invariant
