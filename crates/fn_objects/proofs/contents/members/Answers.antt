use Rattle.fn_objects.proofs.ListLemmas.{members_further}
use Rattle.fn_objects.proofs.contents.members.Goals as goal

pub loop-x-preserved : goal.loop-x-preserved
loop-x-preserved c =
    members_further c.args.s.now c.loop-x.x-index c.x-item.result c.loop-x.found.items c.append.new.out.items c.members_of.result.now c.loop-x-test.true c.x-item.is c.members_of.ensures c.loop-x.invariant c.in_ok-append.ensures
