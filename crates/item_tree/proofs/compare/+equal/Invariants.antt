use Rattle.std.proofs.Common.{◌≡◌, ◌+◌, ◌*◌, drop}
use Rattle.item_tree.specs.Datum.{members, array_of_list, object_of_pairs}
use Rattle.item_tree.specs.Datum.{depth as depth_of}
use Rattle.item_tree.specs.Compare.{equal_lists, equal_in}
use Rattle.item_tree.specs.Item.{datum, datums, pair_datums}
use Rattle.item_tree.proofs.compare.+equal.Given as goal

abbrev pub decreases-equal_items : goal.decreases-equal_items
decreases-equal_items l = 2 * depth_of (datum l.a.now) + 1

abbrev pub decreases-deep_equal : goal.decreases-deep_equal
decreases-deep_equal l = 2 * depth_of (array_of_list (datums l.a.now))

abbrev pub decreases-equal_pairs : goal.decreases-equal_pairs
decreases-equal_pairs l = 2 * depth_of (object_of_pairs (pair_datums l.a.now))

abbrev pub invariant-deep_equal-loop-i : goal.invariant-deep_equal-loop-i
invariant-deep_equal-loop-i l =
    equal_lists (datums (drop l.i l.a)) (datums (drop l.i l.b)) ≡ equal_lists (datums l.a) (datums l.b)

abbrev pub invariant-equal_pairs-loop-p : goal.invariant-equal_pairs-loop-p
invariant-equal_pairs-loop-p l =
    equal_in (members (pair_datums (drop l.p-index l.a))) l.b ≡ equal_in (members (pair_datums l.a)) l.b
