use Rattle.std.proofs.Common.{◌≡◌, ◌+◌, drop, length, map}
use Rattle.std.specs.Vec.Iter.{into_iter_items}
use Rattle.tuple_rows.specs.Tuples.{sequence}
use Rattle.tuple_rows.specs.Keys.{key_data}
use Rattle.group_table.specs.Groups.{with_keys}
use Rattle.group_table.proofs.finish.row.Given as goal

abbrev pub invariant-loop-key : goal.invariant-loop-key
invariant-loop-key l = record {
  rest : with_keys (drop l.at l.keys) (key_data (into_iter_items l.key-iterator)) (map sequence l.slots.items)
      ≡ with_keys l.keys (key_data l.fn.group.keys.items) (map sequence l.fn.group.row.slots.items);
  count : length l.keys ≡ l.at + length (into_iter_items l.key-iterator);
  slots : length l.slots.items ≡ l.width;
}
