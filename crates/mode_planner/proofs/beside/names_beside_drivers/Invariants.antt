use Rattle.std.proofs.Common.{◌≡◌, [], map, drop}
use Rattle.std.specs.List.{flat_map}
use Rattle.query_tree.specs.Calls.{module_trees}
use Rattle.query_tree.specs.Compiled.{bound_trees}
use Rattle.query_tree.specs.Subtrees.{subtrees}
use Rattle.query_tree.specs.inside.Told.{with_names}
use Rattle.query_tree.specs.inside.Waiting.{lent}
use Rattle.mode_planner.specs.Beside.{drivers}
use Rattle.mode_planner.specs.inside.Calls.{tree_names}
use Rattle.mode_planner.specs.inside.Views.{leaf_of}
use Rattle.mode_planner.proofs.beside.names_beside_drivers.Given as goal

-- those so far, and those that what is left adds, are all
abbrev pub invariant-loop-tree : goal.invariant-loop-tree
invariant-loop-tree l =
    let ds = drivers (map leaf_of l.plan.leaves.items) in
    with_names l.names.found.items (flat_map (tree_names ds) (lent (drop l.tree-index l.tree-items))) ≡ with_names [] (flat_map (tree_names ds) (flat_map subtrees (module_trees (bound_trees l.query))))
