use Rattle.std.proofs.Common.{◌≡◌}
use Rattle.table_tests.proofs.row_lists.table.Given as goal

abbrev pub invariant-loop-n : goal.invariant-loop-n
invariant-loop-n l = l.rows.width ≡ 1
