use Rattle.std.proofs.Common.{◌≡◌, ◌+◌, length}
use Rattle.std.specs.Vec.Iter.{into_iter_items, into_iter_len}
use Rattle.query_tree.specs.BoundViews.{bound_clause}
use Rattle.query_meaning.specs.Outcome.{with_front, each_from}
use Rattle.query_meaning.specs.inside.Views.{environment_of, eval_in}
use Rattle.clause_eval.specs.Frames.{frame_tuples, tuples_of}
use Rattle.clause_eval.specs.OneByOne.{left_at}
use Rattle.clause_eval.proofs.evaluator.Evaluator.each_left.Given as goal

abbrev pub invariant-loop-frame : goal.invariant-loop-frame
invariant-loop-frame g l =
    (with_front (tuples_of l.out) (each_from (left_at l.number (eval_in l.env) (bound_clause l.clause) (environment_of l.env)) (l.position + 1) (frame_tuples (into_iter_items l.frame-iterator)))
    ≡ each_from (left_at l.number (eval_in l.env) (bound_clause l.clause) (environment_of l.env)) 1 (frame_tuples (into_iter_items l.initial.frame-iterator)))
    × (into_iter_len l.frame-iterator ≡ length (into_iter_items l.frame-iterator))
    × (l.position + into_iter_len l.frame-iterator ≡ l.count)
