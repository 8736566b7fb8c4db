use Rattle.std.proofs.Common.{◌≡◌, ◌++◌, length}
use Rattle.std.specs.List.{flat_map}
use Rattle.query_tree.specs.BoundViews.{bound_operand}
use Rattle.query_tree.specs.Subtrees.{operand_children}
use Rattle.query_tree.specs.inside.Waiting.{waiting}
use Rattle.mode_planner.proofs.spine.push_operands.Given as goal

-- what is left waits before the others in the end
abbrev pub invariant-loop-last : goal.invariant-loop-last
invariant-loop-last l = flat_map (λ o. operand_children (bound_operand o)) l.left ++ waiting l.stack.items ≡ flat_map (λ o. operand_children (bound_operand o)) l.operands ++ waiting l.initial.stack.items

abbrev pub decreases-loop-last : goal.decreases-loop-last
decreases-loop-last l = length l.left
