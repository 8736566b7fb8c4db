use Rattle.std.proofs.Common.{rules}
use Rattle.fn_objects.proofs.ChoiceLemmas.{strings_more, strings_stop}
use Rattle.fn_objects.proofs.choices.check_strings.Goals as goal

pub returns-in_err-string_of : goal.returns-in_err-string_of
returns-in_err-string_of c =
    let stop = strings_stop c.args.names.now c.loop-name.name-index c.name-item.result c.in_err-string_of.field-0.0 c.loop-name-test.true c.name-item.is c.loop-name.invariant c.in_err-string_of.ensures in
    search (rules, stop)

pub loop-name-preserved : goal.loop-name-preserved
loop-name-preserved c =
    strings_more c.args.names.now c.loop-name.name-index c.name-item.result _ c.loop-name-test.true c.name-item.is c.loop-name.invariant c.in_ok-string_of.ensures
