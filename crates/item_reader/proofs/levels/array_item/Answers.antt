use Rattle.std.proofs.Common.{subst, arith}
use Rattle.item_tree.specs.Item.{datums}
use Rattle.item_tree.specs.Made.{ArrayRefused}
use Rattle.json_text.proofs.FitLemmas.{none_deep}
use Rattle.item_reader.proofs.levels.array_item.Goals as goal

pub unreachable-requires : goal.unreachable-requires
unreachable-requires c =
    none_deep _ (datums c.args.items.now.items) (omega arith) c.requires.1 (subst (ArrayRefused (datums c.args.items.now.items)) c.in-Err-TooDeep.field-0-is c.in-Err-TooDeep.ensures.made)
