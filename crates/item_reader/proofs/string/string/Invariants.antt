use Rattle.std.proofs.Common.{◌≡◌, true, length, take}
use Rattle.std.specs.List.{prefix_len}
use Rattle.std.specs.Str.{IsUtf8, IsAscii}
use Rattle.item_tree.specs.JsonString.{is_raw}
use Rattle.json_text.specs.inside.Scan.{string_at, after_bytes}
use Rattle.item_reader.proofs.string.string.Given as goal

abbrev pub invariant-stretches : goal.invariant-stretches
invariant-stretches l = record {
  same : after_bytes l.bytes.items (string_at l.left) ≡ string_at l.line;
  front : l.len ≡ prefix_len is_raw l.left;
  text : l.is_text ≡ true → IsUtf8 l.bytes.items × IsAscii (take l.len l.left);
}

abbrev pub decreases-stretches : goal.decreases-stretches
decreases-stretches l = length l.left
