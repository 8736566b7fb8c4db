use Rattle.fn_objects.proofs.ListLemmas.{values_further}
use Rattle.fn_objects.proofs.contents.values.Goals as goal

pub loop-x-preserved : goal.loop-x-preserved
loop-x-preserved c =
    values_further c.args.s.now c.loop-x.x-index c.x-item.result c.loop-x.found.items c.append_values.new.out.items c.pairs_of.result.now c.loop-x-test.true c.x-item.is c.pairs_of.ensures c.loop-x.invariant c.in_ok-append_values.ensures
