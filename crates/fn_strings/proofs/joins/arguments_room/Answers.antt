use Rattle.std.proofs.Common.{◌∙◌, sym}
use Rattle.std.proofs.lemmas.List.{at_drop_all}
use Rattle.value_rules.specs.Arguments.{argument_values}
use Rattle.value_rules.specs.Strings.{argument_texts}
use Rattle.fn_strings.specs.inside.Atomics.{refusal}
use Rattle.fn_strings.proofs.Checked.{arguments_are}
use Rattle.fn_strings.proofs.joins.arguments_room.Goals as goal

pub returns : goal.returns
returns c =
    arguments_are (argument_values c.args.arguments.now)
    (sym c.loop-argument.invariant ∙ at_drop_all (λ l. refusal (argument_texts (argument_values l))) c.args.arguments.now c.loop-argument.argument-index c.loop-argument-test.false)
