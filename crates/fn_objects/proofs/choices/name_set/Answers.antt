use Rattle.fn_objects.proofs.KeyLemmas.{no_names}
use Rattle.fn_objects.proofs.ChoiceLemmas.{names_further}
use Rattle.fn_objects.proofs.choices.name_set.Goals as goal

pub loop-name-init : goal.loop-name-init
loop-name-init c = no_names c.new-set.result c.new-set.ensures.empty

pub loop-name-preserved : goal.loop-name-preserved
loop-name-preserved c =
    names_further c.args.names.now c.loop-name.name-index c.name-item.result c.loop-name.set c.add_name.new.set c.loop-name-test.true c.name-item.is c.loop-name.invariant c.in_ok-add_name.ensures
