use Rattle.std.proofs.Common.{◌≡◌, map, take}
use Rattle.item_tree.specs.Item.{datums}
use Rattle.value_rules.specs.Objects.{with_keys}
use Rattle.fn_objects.specs.inside.KeySets.{has}
use Rattle.fn_objects.specs.inside.Choices.{chosen}
use Rattle.fn_objects.proofs.choices.chosen_items.Given as goal

abbrev pub invariant-loop-x : goal.invariant-loop-x
invariant-loop-x l = datums l.items.items ≡ map (with_keys (λ k. chosen l.choice (has l.names k))) (datums (take l.x-index l.s))
