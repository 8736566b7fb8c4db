use Rattle.std.proofs.Common.{◌≡◌, drop, length}
use Rattle.query_tree.specs.BoundViews.{bound_order_keys}
use Rattle.tuple_rows.specs.Keys.{key_list}
use Rattle.query_meaning.specs.Environment.{in_tuple}
use Rattle.query_meaning.specs.Outcome.{with_front}
use Rattle.query_meaning.specs.Orders.{order_keys}
use Rattle.query_meaning.specs.inside.Views.{environment_of, eval_in}
use Rattle.clause_eval.specs.Frames.{frame_tuple}
use Rattle.clause_eval.proofs.evaluator.Evaluator.order_keys.Given as goal

abbrev pub invariant-loop-key : goal.invariant-loop-key
invariant-loop-key g l =
    (with_front (key_list l.found) (order_keys (eval_in l.env) (bound_order_keys (drop l.key-index l.keys)) (in_tuple (environment_of l.env) (frame_tuple l.frame)))
    ≡ order_keys (eval_in l.env) (bound_order_keys l.keys) (in_tuple (environment_of l.env) (frame_tuple l.frame)))
    × (length l.found.items ≡ l.key-index)
