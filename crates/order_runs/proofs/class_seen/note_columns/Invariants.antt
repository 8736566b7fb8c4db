use Rattle.std.proofs.Common.{◌≡◌, ◌++◌, take, drop, length}
use Rattle.tuple_rows.specs.Keys.{key_data}
use Rattle.order_runs.specs.inside.Follow.{followed_columns}
use Rattle.order_runs.specs.inside.Notes.{key_columns}
use Rattle.order_runs.proofs.class_seen.note_columns.Given as goal

abbrev pub invariant-loop-i : goal.invariant-loop-i
invariant-loop-i l = record {
  written : l.columns.items
      ≡ take l.i (followed_columns l.count l.fn.columns.items (key_columns (key_data l.keys))) ++ drop l.i l.fn.columns.items;
  len : length l.columns.items ≡ length l.fn.columns.items;
}
