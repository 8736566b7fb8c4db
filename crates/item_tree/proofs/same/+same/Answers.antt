use Rattle.std.proofs.Common.{sym, arith}
use Rattle.item_tree.proofs.EqualLists.{depth_at, pair_depth_at}
use Rattle.item_tree.proofs.SameValues.{items_differ, pairs_differ}
use Rattle.item_tree.proofs.same.+same.Goals as goal

pub same_items-returns-then-a-b : goal.same_items-returns-then-a-b
same_items-returns-then-a-b t c = sym (items_differ _ _ c.if-a-b.true)

pub same_items-same_item-requires : goal.same_items-same_item-requires
same_items-same_item-requires t c =
    let d = depth_at c.args.a.now c.loop-i.i c.index-a-i.result c.loop-i-test.true c.index-a-i.is in
    (omega arith, tt)

pub same_pairs-returns-then-a-b : goal.same_pairs-returns-then-a-b
same_pairs-returns-then-a-b t c = sym (pairs_differ _ _ c.if-a-b.true)

pub same_pairs-same_item-requires : goal.same_pairs-same_item-requires
same_pairs-same_item-requires t c =
    let d = pair_depth_at c.args.a.now c.loop-i.i c.index-a-i.result c.loop-i-test.true c.index-a-i.is in
    (omega arith, tt)
