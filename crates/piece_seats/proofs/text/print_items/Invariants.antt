use Rattle.std.proofs.Common.{◌≡◌, ◌++◌, drop}
use Rattle.item_tree.specs.Item.{datums}
use Rattle.piece_seats.specs.Texts.{text_lines}
use Rattle.piece_seats.proofs.text.print_items.Given as goal

abbrev pub invariant-loop-item : goal.invariant-loop-item
invariant-loop-item l =
    l.out.items ++ text_lines (datums (drop l.item-index l.items)) ≡ l.fn.out.items ++ text_lines (datums l.items)
