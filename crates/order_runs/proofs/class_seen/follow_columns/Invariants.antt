use Rattle.std.proofs.Common.{◌≡◌, ◌++◌, take, drop, length}
use Rattle.order_runs.specs.inside.Follow.{followed_columns}
use Rattle.order_runs.proofs.class_seen.follow_columns.Given as goal

abbrev pub invariant-loop-i : goal.invariant-loop-i
invariant-loop-i l = record {
  written : l.columns.items ≡ take l.i (followed_columns l.count l.fn.columns.items l.later) ++ drop l.i l.fn.columns.items;
  len : length l.columns.items ≡ length l.fn.columns.items;
}
