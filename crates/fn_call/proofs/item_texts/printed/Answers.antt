use Rattle.std.proofs.Common.{◌≡◌, ◌++◌, ap, sym, subst, ◌∙◌}
use Rattle.std.specs.Str.{IsUtf8}
use Rattle.item_tree.specs.Item.{datum}
use Rattle.item_tree.specs.ItemText.{item_text}
use Rattle.fn_call.proofs.item_texts.printed.Goals as goal

pub from_utf8_unchecked-requires : goal.from_utf8_unchecked-requires
from_utf8_unchecked-requires c =
    let v = datum c.args.item.now in
    let read = c.printed_reads_back.ensures v c.depth-depth.ensures.sound in
    let bytes : c.print_item.new.out.items ≡ item_text v = c.in_ok-print_item.ensures.ok ∙ ap (λ l. l ++ item_text v) c.new-bytes.ensures.items in
    subst IsUtf8 (sym bytes) (c.texts_are_utf8.ensures (item_text v) read.raw read.text)
