use Rattle.std.proofs.Common.{◌≡◌, drop, length, map}
use Rattle.tuple_rows.specs.Tuples.{sequence}
use Rattle.group_table.specs.inside.Joins.{join_rows}
use Rattle.group_table.proofs.group.join.Given as goal

abbrev pub invariant-loop-slot : goal.invariant-loop-slot
invariant-loop-slot l = record {
  rest : join_rows (drop l.slot-index l.joined) (map sequence l.row.items) (map sequence l.tuple.items)
      ≡ join_rows l.joined (map sequence l.fn.row.items) (map sequence l.fn.tuple.items);
  row : length l.row.items ≡ length l.fn.row.items;
  tuple : length l.tuple.items ≡ length l.fn.tuple.items;
}
