use Rattle.std.proofs.Common.{◌+◌, ◌*◌, drop}
use Rattle.item_tree.specs.Datum.{values, members, data_depth, members_depth}
use Rattle.item_tree.specs.Datum.{depth as depth_of}
use Rattle.item_tree.specs.Item.{datum, datums, pair_datums}
use Rattle.item_tree.specs.ItemText.{more_values_text, more_members_text}
use Rattle.item_printer.proofs.Cuts.{Partway}
use Rattle.item_printer.proofs.+print.Given as goal

abbrev pub decreases-item::print_item : goal.decreases-item::print_item
decreases-item::print_item l = 4 * depth_of (datum l.item.now)

abbrev pub decreases-array::print_array : goal.decreases-array::print_array
decreases-array::print_array l = 4 * data_depth (values (datums l.items.now)) + 3

abbrev pub decreases-array::print_value : goal.decreases-array::print_value
decreases-array::print_value l = 4 * depth_of (datum l.item.now) + 1

abbrev pub decreases-array::print_more_values : goal.decreases-array::print_more_values
decreases-array::print_more_values l = 4 * data_depth (values (datums l.items.now)) + 2

abbrev pub decreases-object::print_object : goal.decreases-object::print_object
decreases-object::print_object l = 4 * members_depth (members (pair_datums l.pairs.now)) + 3

abbrev pub decreases-object::print_more_pairs : goal.decreases-object::print_more_pairs
decreases-object::print_more_pairs l = 4 * members_depth (members (pair_datums l.pairs.now)) + 2

abbrev pub decreases-object::print_pair : goal.decreases-object::print_pair
decreases-object::print_pair l = 4 * depth_of (datum l.pair.now.1) + 1

abbrev pub invariant-array::print_more_values-loop-item : goal.invariant-array::print_more_values-loop-item
invariant-array::print_more_values-loop-item l =
    Partway (more_values_text (values (datums l.items))) (more_values_text (values (datums (drop l.item-index l.items)))) l.fn.out.items l.out.items

abbrev pub invariant-object::print_more_pairs-loop-pair : goal.invariant-object::print_more_pairs-loop-pair
invariant-object::print_more_pairs-loop-pair l =
    Partway (more_members_text (members (pair_datums l.pairs))) (more_members_text (members (pair_datums (drop l.pair-index l.pairs)))) l.fn.out.items l.out.items
