use Rattle.static_rules.specs.Compiling.{placed_type}
use Rattle.static_rules.proofs.TypeLists.{types-more, items-more, types-done}
use Rattle.static_rules.proofs.leaves.seq_types.Goals as goal

pub loop-t-preserved : goal.loop-t-preserved
loop-t-preserved c = (
  items-more placed_type c.args.types.now c.loop-t.t-index c.t-item.result c.seq_type.result c.loop-t.out.items c.push.new.self.items c.loop-t.invariant.0 c.in_ok-push.ensures.items c.seq_type.ensures.value c.loop-t-test.true c.t-item.is,
  types-more c.loop-t.walk c.seq_type.new.self c.args.walk.now c.args.types.now c.loop-t.t-index c.t-item.result c.loop-t.invariant.1 c.loop-t-test.true c.t-item.is c.seq_type.ensures.walk,
)

pub returns-clause-walk : goal.returns-clause-walk
returns-clause-walk c = types-done c.loop-t.walk c.args.walk.now c.args.types.now c.loop-t.t-index c.loop-t.invariant.1 c.loop-t-test.false
