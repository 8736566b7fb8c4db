use Rattle.std.proofs.Common.{map, take}
use Rattle.item_tree.specs.Item.{datums}
use Rattle.value_rules.specs.Objects.{all_pairs}
use Rattle.fn_objects.specs.inside.KeySets.{HasKeys}
use Rattle.fn_objects.proofs.key_sets.keys.Given as goal

abbrev pub invariant-loop-x : goal.invariant-loop-x
invariant-loop-x l = HasKeys l.seen l.found.items (map (λ p. p.0) (all_pairs (datums (take l.x-index l.s))))
