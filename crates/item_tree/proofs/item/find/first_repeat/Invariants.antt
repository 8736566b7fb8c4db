use Rattle.std.proofs.Common.{take}
use Rattle.item_tree.specs.Datum.{KeysDiffer}
use Rattle.item_tree.specs.Item.{pair_datums}
use Rattle.item_tree.proofs.item.find.first_repeat.Given as goal

abbrev pub invariant-loop-i : goal.invariant-loop-i
invariant-loop-i l = KeysDiffer (pair_datums (take l.i l.pairs))
