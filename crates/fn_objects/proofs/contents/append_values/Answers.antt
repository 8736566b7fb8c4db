use Rattle.item_tree.specs.Item.{datums}
use Rattle.fn_objects.proofs.ListLemmas.{values_step}
use Rattle.fn_objects.proofs.contents.append_values.Goals as goal

pub loop-p-preserved : goal.loop-p-preserved
loop-p-preserved c =
    values_step (datums c.args.out.now.items) c.args.pairs.now c.loop-p.p-index c.p-item.result c.loop-p.out.items c.push.new.self.items c.in_ok-copy.field-0 c.loop-p-test.true c.p-item.is c.loop-p.invariant c.in_ok-push.ensures.items c.in_ok-copy.ensures
