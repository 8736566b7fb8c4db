use Rattle.std.proofs.Common.{sym, ◌∙◌}
use Rattle.mode_planner.proofs.Besides.{drivers-next, drivers-end}
use Rattle.mode_planner.proofs.driver_table.DriverTable.of.Goals as goal

pub loop-leaf-preserved : goal.loop-leaf-preserved
loop-leaf-preserved c = drivers-next c.loop-leaf.table.all.items _ c.args.leaves.now c.loop-leaf.leaf-index c.leaf-item.result c.loop-leaf-test.true c.leaf-item.is c.in_ok-table.ensures ∙ c.loop-leaf.invariant

pub returns : goal.returns
returns c = sym (drivers-end c.loop-leaf.table.all.items c.args.leaves.now c.loop-leaf.leaf-index c.loop-leaf-test.false) ∙ c.loop-leaf.invariant
