use Rattle.std.proofs.Common.{◌≡◌, ◌++◌, drop}
use Rattle.std.specs.List.{flat_map}
use Rattle.std.specs.Str.{chars}
use Rattle.std.specs.String.{string_bytes}
use Rattle.value_rules.specs.Arguments.{argument_values}
use Rattle.fn_strings.specs.inside.Atomics.{ArgumentsAreAtomic, text_of_all}
use Rattle.fn_strings.proofs.joins.joined_arguments.Given as goal

abbrev pub invariant-loop-argument : goal.invariant-loop-argument
invariant-loop-argument l = record {
  atomic : ArgumentsAreAtomic (argument_values (drop l.argument-index l.arguments));
  text : chars (string_bytes l.text) ++ flat_map text_of_all (argument_values (drop l.argument-index l.arguments))
      ≡ flat_map text_of_all (argument_values l.arguments);
}
