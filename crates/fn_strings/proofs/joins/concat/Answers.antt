use Rattle.std.proofs.Common.{Ok, ap, sym, ◌∙◌}
use Rattle.value_rules.specs.Arguments.{argument_values}
use Rattle.value_rules.specs.Strings.{one_text}
use Rattle.fn_strings.proofs.Checked.{joined_arguments_are}
use Rattle.fn_strings.proofs.joins.concat.Goals as goal

pub returns-clause-value : goal.returns-clause-value
returns-clause-value c =
    rw (c.in_ok-room.ensures.1)
    (ap (λ t. Ok (one_text t)) (joined_arguments_are (argument_values c.args.arguments.now)) ∙ ap Ok (sym c.in_ok-joined_arguments.ensures))
