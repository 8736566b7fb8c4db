use Rattle.std.proofs.Common.{take}
use Rattle.item_tree.specs.Item.{datums}
use Rattle.fn_objects.specs.inside.KeySets.{HasNames}
use Rattle.fn_objects.specs.inside.Choices.{strings_of}
use Rattle.fn_objects.proofs.choices.name_set.Given as goal

abbrev pub invariant-loop-name : goal.invariant-loop-name
invariant-loop-name l = HasNames l.set (strings_of (datums (take l.name-index l.names)))
