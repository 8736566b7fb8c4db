use Rattle.std.proofs.Common.{◌∙◌, sym}
use Rattle.std.proofs.lemmas.List.{at_drop_all}
use Rattle.item_tree.specs.Item.{datums}
use Rattle.value_rules.specs.Strings.{atomic_texts}
use Rattle.fn_strings.specs.inside.Atomics.{refusal}
use Rattle.fn_strings.proofs.Checked.{atomics_are}
use Rattle.fn_strings.proofs.joins.items_room.Goals as goal

pub returns : goal.returns
returns c =
    atomics_are (datums c.args.items.now)
    (sym c.loop-item.invariant ∙ at_drop_all (λ l. refusal (atomic_texts (datums l))) c.args.items.now c.loop-item.item-index c.loop-item-test.false)
