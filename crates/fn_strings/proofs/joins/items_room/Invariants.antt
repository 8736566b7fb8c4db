use Rattle.std.proofs.Common.{◌≡◌, drop}
use Rattle.item_tree.specs.Item.{datums}
use Rattle.value_rules.specs.Strings.{atomic_texts}
use Rattle.fn_strings.specs.inside.Atomics.{refusal}
use Rattle.fn_strings.proofs.joins.items_room.Given as goal

abbrev pub invariant-loop-item : goal.invariant-loop-item
invariant-loop-item l = refusal (atomic_texts (datums (drop l.item-index l.items))) ≡ refusal (atomic_texts (datums l.items))
