use Rattle.std.proofs.Common.{◌≡◌, ◌++◌, map, drop}
use Rattle.query_tree.specs.Compiled.{bound_trees}
use Rattle.query_tree.specs.inside.Waiting.{lent}
use Rattle.mode_planner.specs.Plans.{leaf_plan, plan}
use Rattle.mode_planner.specs.inside.Views.{leaf_of}
use Rattle.mode_planner.proofs.planning.make_plan.Given as goal

abbrev pub invariant-loop-tree : goal.invariant-loop-tree
invariant-loop-tree l = map leaf_of l.planned.items ++ map (leaf_plan l.local) (lent (drop l.tree-index l.tree-items)) ≡ plan l.local (bound_trees l.query).body
