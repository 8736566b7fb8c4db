use Rattle.std.proofs.Common.{◌≡◌, ◌++◌, drop, map}
use Rattle.item_tree.specs.Item.{datums}
use Rattle.clause_eval.specs.Positions.{position}
use Rattle.clause_eval.proofs.groups.positions_of.Given as goal

abbrev pub invariant-loop-item : goal.invariant-loop-item
invariant-loop-item l =
    (l.places.items ++ map position (datums (drop l.item-index l.items))) ≡ map position (datums l.items)
