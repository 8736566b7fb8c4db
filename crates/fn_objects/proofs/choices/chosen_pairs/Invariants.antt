use Rattle.std.proofs.Common.{◌≡◌, take}
use Rattle.std.specs.List.{filter}
use Rattle.item_tree.specs.Item.{pair_datums}
use Rattle.fn_objects.specs.inside.KeySets.{has}
use Rattle.fn_objects.specs.inside.Choices.{chosen}
use Rattle.fn_objects.proofs.choices.chosen_pairs.Given as goal

abbrev pub invariant-loop-p : goal.invariant-loop-p
invariant-loop-p l = pair_datums l.kept.items ≡ filter (λ p. chosen l.choice (has l.names p.0)) (pair_datums (take l.p-index l.pairs))
