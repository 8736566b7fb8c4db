use Rattle.std.proofs.Common.{◌≡◌, map, drop}
use Rattle.mode_planner.specs.Beside.{drivers}
use Rattle.mode_planner.specs.inside.Views.{leaf_of}
use Rattle.mode_planner.proofs.Besides.{all_drivers}
use Rattle.mode_planner.proofs.driver_table.DriverTable.of.Given as goal

abbrev pub invariant-loop-leaf : goal.invariant-loop-leaf
invariant-loop-leaf l = all_drivers l.table.all.items (drop l.leaf-index l.leaves) ≡ drivers (map leaf_of l.leaves)
