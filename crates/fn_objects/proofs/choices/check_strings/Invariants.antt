use Rattle.std.proofs.Common.{◌≡◌, take, Ok}
use Rattle.item_tree.specs.Item.{datums}
use Rattle.value_rules.specs.Operands.{string_of}
use Rattle.value_rules.specs.Sequences.{each}
use Rattle.fn_objects.specs.inside.Choices.{strings_of}
use Rattle.fn_objects.proofs.choices.check_strings.Given as goal

abbrev pub invariant-loop-name : goal.invariant-loop-name
invariant-loop-name l = each string_of (datums (take l.name-index l.names)) ≡ Ok (strings_of (datums (take l.name-index l.names)))
