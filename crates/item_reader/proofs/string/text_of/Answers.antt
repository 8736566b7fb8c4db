use Rattle.item_reader.proofs.string.text_of.Goals as goal

pub from_utf8_unchecked-requires : goal.from_utf8_unchecked-requires
from_utf8_unchecked-requires c = c.requires c.if-is_text.true
