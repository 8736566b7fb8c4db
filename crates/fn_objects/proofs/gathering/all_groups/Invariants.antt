use Rattle.std.proofs.Common.{take}
use Rattle.item_tree.specs.Item.{datums}
use Rattle.value_rules.specs.Objects.{all_pairs}
use Rattle.fn_objects.specs.inside.Groups.{IsGrouped}
use Rattle.fn_objects.proofs.gathering.all_groups.Given as goal

abbrev pub invariant-loop-x : goal.invariant-loop-x
invariant-loop-x l = IsGrouped l.groups (all_pairs (datums (take l.x-index l.s)))
