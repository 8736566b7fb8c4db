use Rattle.std.proofs.Common.{◌≡◌, ◌++◌, length}
use Rattle.std.specs.List.{flat_map}
use Rattle.query_tree.specs.BoundViews.{bound_tree}
use Rattle.query_tree.specs.Subtrees.{subtrees}
use Rattle.query_tree.specs.inside.Waiting.{lent, waiting}
use Rattle.mode_planner.specs.Spine.{leaves}
use Rattle.mode_planner.proofs.spine.leaves.Given as goal

-- the leaves that are found, and behind them those of what waits
abbrev pub invariant-loop-next : goal.invariant-loop-next
invariant-loop-next l = lent l.found.items ++ flat_map leaves (waiting l.stack.items) ≡ leaves (bound_tree l.tree)

-- how many trees are left
abbrev pub decreases-loop-next : goal.decreases-loop-next
decreases-loop-next l = length (flat_map subtrees (waiting l.stack.items))
