use Rattle.std.proofs.Common.{ap, ◌∙◌}
use Rattle.std.specs.Str.{chars}
use Rattle.std.proofs.lemmas.Str.{IsUtf8-from_ascii, chars-IsAscii}
use Rattle.item_tree.proofs.date_text.ascii_str.Goals as goal

pub from_utf8_unchecked-requires : goal.from_utf8_unchecked-requires
from_utf8_unchecked-requires c = IsUtf8-from_ascii _ c.requires

pub returns-clause-chars : goal.returns-clause-chars
returns-clause-chars c = ap chars c.from_utf8_unchecked.ensures ∙ chars-IsAscii _ c.requires
