use Rattle.std.proofs.Common.{subst}
use Rattle.item_tree.specs.Item.{pair_datums}
use Rattle.item_tree.specs.Made.{RepeatRefused}
use Rattle.item_tree.proofs.PairLists.{no_repeat}
use Rattle.item_tree.proofs.item.find.ready_index.Goals as goal

pub unreachable-requires : goal.unreachable-requires
unreachable-requires c =
    no_repeat _ _ c.requires.0 (subst (RepeatRefused (pair_datums c.args.pairs.now)) c.in-Err-KeyTwice.field-0-is c.in-Err-KeyTwice.ensures)
