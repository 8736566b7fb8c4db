use Rattle.std.proofs.Common.{◌≡◌, map, take}
use Rattle.item_tree.specs.Item.{pair_datums}
use Rattle.value_rules.specs.Objects.{gathered}
use Rattle.fn_objects.specs.inside.Groups.{values_in}
use Rattle.fn_objects.proofs.gathering.Groups.pairs.Given as goal

abbrev pub invariant-loop-key : goal.invariant-loop-key
invariant-loop-key l = pair_datums l.pairs.items ≡ map (λ k. (k, gathered (values_in l.self k))) (take l.key-index l.self.keys.items)
