use Rattle.std.proofs.Common.{◌≡◌, take}
use Rattle.item_tree.specs.Datum.{MembersSound, members, object_of_pairs}
use Rattle.item_tree.specs.Datum.{depth as depth_of}
use Rattle.item_tree.specs.Item.{pair_datums}
use Rattle.item_tree.proofs.item.make.object_depth.Given as goal

abbrev pub invariant-loop-p : goal.invariant-loop-p
invariant-loop-p l =
    (l.depth ≡ depth_of (object_of_pairs (pair_datums (take l.p-index l.pairs)))) × MembersSound (members (pair_datums (take l.p-index l.pairs)))
