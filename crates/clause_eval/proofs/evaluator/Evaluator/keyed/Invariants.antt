use Rattle.std.proofs.Common.{◌≡◌, ◌+◌, [], length}
use Rattle.std.specs.Vec.Iter.{into_iter_items, into_iter_len}
use Rattle.query_tree.specs.BoundViews.{bound_order_keys}
use Rattle.order_runs.specs.Orders.{key_lists}
use Rattle.query_meaning.specs.Outcome.{with_front}
use Rattle.query_meaning.specs.Orders.{keyed_from}
use Rattle.query_meaning.specs.inside.Views.{environment_of, eval_in}
use Rattle.clause_eval.specs.Frames.{frame_tuples, keyed_list}
use Rattle.clause_eval.specs.Ordering.{IsSorting}
use Rattle.clause_eval.proofs.evaluator.Evaluator.keyed.Given as goal

abbrev pub invariant-loop-frame : goal.invariant-loop-frame
invariant-loop-frame g l =
    (with_front (keyed_list l.sorting.entries.items) (keyed_from (eval_in l.env) l.number (bound_order_keys l.keys) (environment_of l.env) (key_lists (keyed_list l.sorting.entries.items)) (l.position + 1) (frame_tuples (into_iter_items l.frame-iterator)))
    ≡ keyed_from (eval_in l.env) l.number (bound_order_keys l.keys) (environment_of l.env) [] 1 (frame_tuples (into_iter_items l.initial.frame-iterator)))
    × IsSorting (length l.keys) l.sorting
    × (into_iter_len l.frame-iterator ≡ length (into_iter_items l.frame-iterator))
    × (l.position + into_iter_len l.frame-iterator ≡ l.count)
