use Rattle.std.proofs.Common.{◌≡◌, take}
use Rattle.item_tree.specs.Datum.{AllSound, values, array_of_list}
use Rattle.item_tree.specs.Datum.{depth as depth_of}
use Rattle.item_tree.specs.Item.{datums}
use Rattle.item_tree.proofs.item.make.array_depth.Given as goal

abbrev pub invariant-loop-x : goal.invariant-loop-x
invariant-loop-x l =
    (l.depth ≡ depth_of (array_of_list (datums (take l.x-index l.items)))) × AllSound (values (datums (take l.x-index l.items)))
