use Rattle.std.proofs.Common.{◌≡◌, ◌∷◌, [], ◌++◌, length}
use Rattle.std.specs.List.{flat_map}
use Rattle.std.specs.Str.{chars, IsUtf8}
use Rattle.std.specs.String.{string_bytes}
use Rattle.value_rules.specs.Strings.{joined_by, words_of}
use Rattle.fn_strings.proofs.pieces.spaced.Given as goal

abbrev pub invariant-loop-piece : goal.invariant-loop-piece
invariant-loop-piece l = record {
  text : IsUtf8 l.rest;
  line : chars (string_bytes l.line) ++ flat_map (λ u. (32 ∷ []) ++ u) (words_of (chars l.rest)) ≡ joined_by (32 ∷ []) (words_of (chars l.text));
}

abbrev pub decreases-loop-piece : goal.decreases-loop-piece
decreases-loop-piece l = length l.rest
