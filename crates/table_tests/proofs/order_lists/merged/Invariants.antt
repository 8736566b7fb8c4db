use Rattle.order_runs.specs.Runs.{AllFit}
use Rattle.table_tests.proofs.order_lists.merged.Given as goal

abbrev pub invariant-loop-part : goal.invariant-loop-part
invariant-loop-part l = AllFit 1 2 l.runs.items
