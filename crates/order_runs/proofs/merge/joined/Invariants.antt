use Rattle.std.proofs.Common.{◌≡◌, ◌++◌, map}
use Rattle.std.specs.Vec.Iter.{into_iter_items}
use Rattle.order_runs.specs.Runs.{concat, run_entries}
use Rattle.order_runs.proofs.merge.joined.Given as goal

abbrev pub invariant-loop-run : goal.invariant-loop-run
invariant-loop-run l =
    l.all.items ++ concat (map run_entries (into_iter_items l.run-iterator)) ≡ concat (map run_entries l.fn.runs.items)
