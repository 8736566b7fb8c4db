use Rattle.std.proofs.Common.{arith}
use Rattle.std.proofs.lemmas.Int.{ints}
use Rattle.atom_ops.proofs.RangeLemmas.{one_more}
use Rattle.atom_ops.proofs.ranges.counted.Goals as goal

pub loop-i-preserved : goal.loop-i-preserved
loop-i-preserved c = record {
  values = one_more _ _ _ c.new.result c.loop-i.i c.push_reserved.ensures.items c.loop-i.invariant.values (omega (arith, ints));
  len = omega arith;
  room = omega arith;
}
