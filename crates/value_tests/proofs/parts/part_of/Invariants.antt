use Rattle.std.proofs.Common.{take}
use Rattle.item_tree.specs.Item.{datums}
use Rattle.value_tests.proofs.parts.part_of.Given as goal

abbrev pub invariant-loop-x : goal.invariant-loop-x
invariant-loop-x g l = g.P.Partial.stands l.part (datums (take l.x-index l.s))
