use Rattle.std.proofs.Common.{◌≡◌, ◌+◌, ◌*◌, drop}
use Rattle.item_tree.specs.Datum.{values, members, array_of_list, object_of_pairs}
use Rattle.item_tree.specs.Datum.{depth as depth_of}
use Rattle.item_tree.specs.Item.{datum, datums, pair_datums}
use Rattle.item_tree.specs.Sameness.{same_data, same_members}
use Rattle.item_tree.proofs.same.+same.Given as goal

abbrev pub decreases-same_item : goal.decreases-same_item
decreases-same_item l = 2 * depth_of (datum l.a.now) + 1

abbrev pub decreases-same_items : goal.decreases-same_items
decreases-same_items l = 2 * depth_of (array_of_list (datums l.a.now))

abbrev pub decreases-same_pairs : goal.decreases-same_pairs
decreases-same_pairs l = 2 * depth_of (object_of_pairs (pair_datums l.a.now))

abbrev pub invariant-same_items-loop-i : goal.invariant-same_items-loop-i
invariant-same_items-loop-i l =
    same_data (values (datums (drop l.i l.a))) (values (datums (drop l.i l.b))) ≡ same_data (values (datums l.a)) (values (datums l.b))

abbrev pub invariant-same_pairs-loop-i : goal.invariant-same_pairs-loop-i
invariant-same_pairs-loop-i l =
    same_members (members (pair_datums (drop l.i l.a))) (members (pair_datums (drop l.i l.b))) ≡ same_members (members (pair_datums l.a)) (members (pair_datums l.b))
