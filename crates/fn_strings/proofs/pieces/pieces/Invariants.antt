use Rattle.std.proofs.Common.{◌≡◌, ◌++◌, length, map}
use Rattle.std.specs.Str.{chars, IsUtf8}
use Rattle.item_tree.specs.Datum.{text as text_datum}
use Rattle.item_tree.specs.Item.{datums}
use Rattle.value_rules.specs.Strings.{words_of}
use Rattle.fn_strings.proofs.pieces.pieces.Given as goal

abbrev pub invariant-loop-piece : goal.invariant-loop-piece
invariant-loop-piece l = record {
  text : IsUtf8 l.rest;
  items : datums l.items.items ++ map text_datum (words_of (chars l.rest)) ≡ map text_datum (words_of (chars l.text));
}

abbrev pub decreases-loop-piece : goal.decreases-loop-piece
decreases-loop-piece l = length l.rest
