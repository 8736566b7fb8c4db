use Rattle.std.proofs.Common.{◌≡◌, ◌++◌}
use Rattle.std.specs.Vec.Iter.{into_iter_items}
use Rattle.tuple_rows.specs.Tuples.{row_list}
use Rattle.order_runs.specs.Orders.{rows}
use Rattle.order_runs.specs.Runs.{entries_of}
use Rattle.order_runs.proofs.merge.tuples_of.Given as goal

abbrev pub invariant-loop-entry : goal.invariant-loop-entry
invariant-loop-entry l =
    row_list l.tuples.items ++ rows (entries_of (into_iter_items l.entry-iterator)) ≡ rows (entries_of l.fn.entries.items)
