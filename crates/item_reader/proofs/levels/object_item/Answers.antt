use Rattle.std.proofs.Common.{subst, arith}
use Rattle.item_tree.specs.Made.{DistinctRefused}
use Rattle.json_text.proofs.FitLemmas.{none_deep_pair}
use Rattle.item_reader.proofs.levels.object_item.Goals as goal

pub unreachable-requires : goal.unreachable-requires
unreachable-requires c =
    none_deep_pair _ c.args.pairs.now (omega arith) c.requires.1 (subst (DistinctRefused c.args.pairs.now) c.in-Err-TooDeep.field-0-is c.in-Err-TooDeep.ensures.made)
