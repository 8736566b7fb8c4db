use Rattle.std.proofs.Common.{◌≡◌, ◌+◌, [], length}
use Rattle.std.specs.Vec.Iter.{into_iter_items, into_iter_len}
use Rattle.query_tree.specs.BoundViews.{bound_order_keys}
use Rattle.query_meaning.specs.inside.Views.{environment_of, eval_in}
use Rattle.stage_laws.specs.Runs.{keyed_from}
use Rattle.stage_laws.specs.Ends.{in_front, keys_of}
use Rattle.clause_stages.specs.Ends.{tuple_keys, order_clash}
use Rattle.clause_eval.specs.Frames.{frame_tuples, keyed_list}
use Rattle.piece_run.specs.Ordering.{IsOrdered}
use Rattle.piece_run.proofs.ordering.ordered_tuples.Given as goal

abbrev pub invariant-loop-frame : goal.invariant-loop-frame
invariant-loop-frame g l =
    (in_front (keyed_list l.ordered.entries.items) (keyed_from l.at (tuple_keys (eval_in l.env) (bound_order_keys l.keys) (environment_of l.env)) (order_clash (bound_order_keys l.keys)) (keys_of (keyed_list l.ordered.entries.items)) (l.position + 1) (frame_tuples (into_iter_items l.frame-iterator)))
    ≡ keyed_from l.at (tuple_keys (eval_in l.env) (bound_order_keys l.keys) (environment_of l.env)) (order_clash (bound_order_keys l.keys)) [] 1 (frame_tuples (into_iter_items l.initial.frame-iterator)))
    × IsOrdered (length l.keys) l.ordered
    × (into_iter_len l.frame-iterator ≡ length (into_iter_items l.frame-iterator))
    × (l.position + into_iter_len l.frame-iterator ≡ l.count)
