use Rattle.std.proofs.Common.{length, refl, sym}
use Rattle.item_tree.specs.Item.{datums}
use Rattle.piece_seats.specs.Texts.{text_lines}
use Rattle.piece_seats.proofs.Texts.{text_after, datums_length}
use Rattle.piece_seats.proofs.text.TextItemsKept.add.Goals as goal

pub returns : goal.returns
returns c = λ ds h.
    text_after ds (datums c.args.items.now) c.args.self.now.bytes.items (text_lines (datums c.args.items.now)) c.print_items.new.out.items c.args.self.now.items (length c.args.items.now) c.in_ok-count.count h refl c.in_ok-print_items.ensures
    (sym (datums_length c.args.items.now)) c.in_ok-count.ensures
