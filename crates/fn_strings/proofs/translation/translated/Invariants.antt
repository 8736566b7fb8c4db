use Rattle.std.proofs.Common.{◌≡◌}
use Rattle.std.specs.List.{flat_map}
use Rattle.std.specs.Str.{chars}
use Rattle.std.specs.String.{string_bytes}
use Rattle.value_rules.specs.Strings.{translated}
use Rattle.fn_strings.proofs.translation.translated.Given as goal

abbrev pub invariant-loop-c : goal.invariant-loop-c
invariant-loop-c l = chars (string_bytes l.line) ≡ flat_map (translated (chars l.characters) (chars l.images)) l.yielded
