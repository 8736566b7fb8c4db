use Rattle.std.proofs.Common.{◌≡◌, take}
use Rattle.std.specs.List.{flat_map}
use Rattle.item_tree.specs.Item.{datums}
use Rattle.value_rules.specs.Objects.{members_of}
use Rattle.fn_objects.proofs.contents.members.Given as goal

abbrev pub invariant-loop-x : goal.invariant-loop-x
invariant-loop-x l = datums l.found.items ≡ flat_map members_of (datums (take l.x-index l.s))
