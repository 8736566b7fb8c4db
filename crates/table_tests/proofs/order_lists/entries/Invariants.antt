use Rattle.tuple_rows.specs.Tuples.{AllOfWidth}
use Rattle.order_runs.specs.Orders.{key_lists, rows}
use Rattle.order_runs.specs.Seen.{AllCount}
use Rattle.order_runs.specs.Runs.{entries_of}
use Rattle.table_tests.proofs.order_lists.entries.Given as goal

abbrev pub invariant-loop-word : goal.invariant-loop-word
invariant-loop-word l = record {
  counts : AllCount 2 (key_lists (entries_of l.entries.items));
  widths : AllOfWidth 1 (rows (entries_of l.entries.items));
}
