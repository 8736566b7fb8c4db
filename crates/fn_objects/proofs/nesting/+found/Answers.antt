use Rattle.std.proofs.Common.{arith}
use Rattle.item_tree.proofs.EqualLists.{depth_at, pair_depth_at}
use Rattle.fn_objects.proofs.nesting.+found.Goals as goal

pub find_in_items-find_in_item-requires : goal.find_in_items-find_in_item-requires
find_in_items-find_in_item-requires t c =
    let d = depth_at c.args.items.now c.loop-x.x-index c.x-item.result c.loop-x-test.true c.x-item.is in
    (omega arith, tt)

pub find_in_pairs-find_in_item-requires : goal.find_in_pairs-find_in_item-requires
find_in_pairs-find_in_item-requires t c =
    let d = pair_depth_at c.args.pairs.now c.loop-p.p-index c.p-item.result c.loop-p-test.true c.p-item.is in
    (omega arith, tt)
