use Rattle.std.proofs.Common.{◌≡◌, length}
use Rattle.std.specs.List.{flat_map}
use Rattle.query_tree.specs.BoundViews.{bound_tree}
use Rattle.query_tree.specs.Calls.{calls}
use Rattle.query_tree.specs.Inputs.{all_names}
use Rattle.query_tree.specs.Subtrees.{subtrees}
use Rattle.query_tree.specs.inside.Told.{with_names, trees_names}
use Rattle.query_tree.specs.inside.Waiting.{waiting}
use Rattle.query_tree.proofs.distinct_names.DistinctNames.with_tree.Given as goal

-- what the trees that wait tell is all that is left to tell
abbrev pub invariant-loop-next : goal.invariant-loop-next
invariant-loop-next l = with_names l.names.found.items (trees_names (flat_map subtrees (waiting l.stack.items))) ≡ with_names l.fn.self.found.items (all_names (calls (bound_tree l.tree)))

-- how many trees are left
abbrev pub decreases-loop-next : goal.decreases-loop-next
decreases-loop-next l = length (flat_map subtrees (waiting l.stack.items))
