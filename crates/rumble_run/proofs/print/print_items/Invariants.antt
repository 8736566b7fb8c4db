use Rattle.std.proofs.Common.{◌≡◌, ◌++◌, drop}
use Rattle.item_tree.specs.Item.{datums}
use Rattle.rumble_run.specs.Answer.{output_of}
use Rattle.rumble_run.proofs.print.print_items.Given as goal

abbrev pub invariant-loop-item : goal.invariant-loop-item
invariant-loop-item l =
    l.out.items ++ output_of (datums (drop l.item-index l.items)) ≡ output_of (datums l.items)
