use Rattle.std.proofs.Common.{◌≡◌, ◌++◌, length}
use Rattle.std.specs.List.{flat_map}
use Rattle.query_tree.specs.BoundViews.{bound_tree}
use Rattle.query_tree.specs.Subtrees.{subtrees}
use Rattle.query_tree.specs.inside.Waiting.{lent, waiting}
use Rattle.query_tree.proofs.walk.push_expressions.Given as goal

-- those that are found, and those in the trees that wait, are all
abbrev pub invariant-loop-next : goal.invariant-loop-next
invariant-loop-next l = lent l.found.items ++ flat_map subtrees (waiting l.stack.items) ≡ lent l.initial.found.items ++ subtrees (bound_tree l.tree)

-- how many are left
abbrev pub decreases-loop-next : goal.decreases-loop-next
decreases-loop-next l = length (flat_map subtrees (waiting l.stack.items))
