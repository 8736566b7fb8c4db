use Rattle.std.proofs.Common.{◌≡◌, ◌+◌, ◌*◌, ◌++◌, drop}
use Rattle.item_tree.specs.Datum.{values, array_of_list}
use Rattle.item_tree.specs.Datum.{depth as depth_of}
use Rattle.item_tree.specs.Item.{datum, datums}
use Rattle.value_rules.specs.Objects.{flat_data}
use Rattle.fn_objects.proofs.nesting.+flat.Given as goal

abbrev pub decreases-flatten_item : goal.decreases-flatten_item
decreases-flatten_item l = 2 * depth_of (datum l.x.now) + 1

abbrev pub decreases-flatten_items : goal.decreases-flatten_items
decreases-flatten_items l = 2 * depth_of (array_of_list (datums l.items.now))

abbrev pub invariant-flatten_items-loop-x : goal.invariant-flatten_items-loop-x
invariant-flatten_items-loop-x l =
    datums l.out.items ++ flat_data (values (datums (drop l.x-index l.items))) ≡ datums l.initial.out.items ++ flat_data (values (datums l.items))
