use Rattle.std.proofs.Common.{◌≡◌, ◌≤◌, map, take}
use Rattle.query_tree.specs.inside.Waiting.{lent}
use Rattle.mode_planner.specs.Beside.{driven_calls}
use Rattle.mode_planner.specs.inside.Views.{driver_of}
use Rattle.mode_planner.proofs.beside.driven_calls.Given as goal

abbrev pub invariant-loop-tree : goal.invariant-loop-tree
invariant-loop-tree l = record {
  counted : l.count ≡ driven_calls (map driver_of l.drivers.all.items) (lent (take l.tree-index l.trees));
  few : l.count ≤ l.tree-index;
}
