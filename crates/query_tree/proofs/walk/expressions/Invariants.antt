use Rattle.std.proofs.Common.{◌≡◌, take}
use Rattle.std.specs.List.{flat_map}
use Rattle.query_tree.specs.Subtrees.{subtrees}
use Rattle.query_tree.specs.inside.Waiting.{lent}
use Rattle.query_tree.proofs.walk.expressions.Given as goal

abbrev pub invariant-loop-tree : goal.invariant-loop-tree
invariant-loop-tree l = lent l.found.items ≡ flat_map subtrees (lent (take l.tree-index l.tree-items))
