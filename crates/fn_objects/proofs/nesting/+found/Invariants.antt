use Rattle.std.proofs.Common.{◌≡◌, ◌+◌, ◌*◌, ◌++◌, drop}
use Rattle.std.specs.List.{filter}
use Rattle.item_tree.specs.Datum.{values, members, array_of_list, object_of_pairs}
use Rattle.item_tree.specs.Datum.{depth as depth_of}
use Rattle.item_tree.specs.Item.{datum, datums, pair_datums}
use Rattle.value_rules.specs.Objects.{parts_of_data, parts_of_members}
use Rattle.fn_objects.specs.inside.Nesting.{is_wanted}
use Rattle.fn_objects.proofs.nesting.+found.Given as goal

abbrev pub decreases-find_in_item : goal.decreases-find_in_item
decreases-find_in_item l = 2 * depth_of (datum l.x.now) + 1

abbrev pub decreases-find_in_items : goal.decreases-find_in_items
decreases-find_in_items l = 2 * depth_of (array_of_list (datums l.items.now))

abbrev pub decreases-find_in_pairs : goal.decreases-find_in_pairs
decreases-find_in_pairs l = 2 * depth_of (object_of_pairs (pair_datums l.pairs.now))

abbrev pub invariant-find_in_items-loop-x : goal.invariant-find_in_items-loop-x
invariant-find_in_items-loop-x l =
    datums l.out.items ++ filter (is_wanted l.wanted) (parts_of_data (values (datums (drop l.x-index l.items)))) ≡ datums l.initial.out.items ++ filter (is_wanted l.wanted) (parts_of_data (values (datums l.items)))

abbrev pub invariant-find_in_pairs-loop-p : goal.invariant-find_in_pairs-loop-p
invariant-find_in_pairs-loop-p l =
    datums l.out.items ++ filter (is_wanted l.wanted) (parts_of_members (members (pair_datums (drop l.p-index l.pairs)))) ≡ datums l.initial.out.items ++ filter (is_wanted l.wanted) (parts_of_members (members (pair_datums l.pairs)))
