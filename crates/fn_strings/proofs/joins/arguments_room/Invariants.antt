use Rattle.std.proofs.Common.{◌≡◌, drop}
use Rattle.value_rules.specs.Arguments.{argument_values}
use Rattle.value_rules.specs.Strings.{argument_texts}
use Rattle.fn_strings.specs.inside.Atomics.{refusal}
use Rattle.fn_strings.proofs.joins.arguments_room.Given as goal

abbrev pub invariant-loop-argument : goal.invariant-loop-argument
invariant-loop-argument l =
    refusal (argument_texts (argument_values (drop l.argument-index l.arguments))) ≡ refusal (argument_texts (argument_values l.arguments))
