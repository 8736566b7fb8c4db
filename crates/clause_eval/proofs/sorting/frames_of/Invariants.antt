use Rattle.std.proofs.Common.{◌≡◌, ◌++◌}
use Rattle.std.specs.Vec.Iter.{into_iter_items}
use Rattle.order_runs.specs.Orders.{rows}
use Rattle.clause_eval.specs.Frames.{tuples_of, keyed_list}
use Rattle.clause_eval.proofs.sorting.frames_of.Given as goal

abbrev pub invariant-loop-entry : goal.invariant-loop-entry
invariant-loop-entry l =
    (tuples_of l.frames ++ rows (keyed_list (into_iter_items l.entry-iterator))) ≡ rows (keyed_list (into_iter_items l.initial.entry-iterator))
