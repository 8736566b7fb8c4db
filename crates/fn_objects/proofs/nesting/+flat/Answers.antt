use Rattle.std.proofs.Common.{arith}
use Rattle.item_tree.proofs.EqualLists.{depth_at}
use Rattle.fn_objects.proofs.nesting.+flat.Goals as goal

pub flatten_items-flatten_item-requires : goal.flatten_items-flatten_item-requires
flatten_items-flatten_item-requires t c =
    let d = depth_at c.args.items.now c.loop-x.x-index c.x-item.result c.loop-x-test.true c.x-item.is in
    (omega arith, tt)
