use Rattle.std.proofs.Common.{◌≡◌}
use Rattle.std.specs.Vec.{vec_len, vec_capacity}
use Rattle.item_tree.specs.Item.{datums}
use Rattle.atom_ops.specs.Ranges.{counted}
use Rattle.atom_ops.proofs.ranges.counted.Given as goal

abbrev pub invariant-loop-i : goal.invariant-loop-i
invariant-loop-i l = record {
  values : datums l.items.items ≡ counted l.first l.i;
  len : vec_len l.items ≡ l.i;
  room : vec_capacity l.items ≡ l.count;
}
