use Rattle.std.proofs.Common.{◌≡◌, ◌+◌, length}
use Rattle.std.specs.Vec.Iter.{into_iter_items, into_iter_len}
use Rattle.query_tree.specs.BoundViews.{bound_group_vars}
use Rattle.query_meaning.specs.Groups.{keyed_tuple}
use Rattle.query_meaning.specs.Outcome.{with_front, each_from}
use Rattle.query_meaning.specs.inside.Views.{environment_of, eval_in}
use Rattle.clause_eval.specs.Frames.{frame_tuples, entries_of}
use Rattle.clause_eval.specs.Grouping.{AllHaveKeys}
use Rattle.clause_eval.proofs.evaluator.Evaluator.keyed_tuples.Given as goal

abbrev pub invariant-loop-frame : goal.invariant-loop-frame
invariant-loop-frame g l =
    (with_front (entries_of l.out) (each_from (keyed_tuple (eval_in l.env) l.number (bound_group_vars l.keys) (environment_of l.env)) (l.position + 1) (frame_tuples (into_iter_items l.frame-iterator)))
    ≡ each_from (keyed_tuple (eval_in l.env) l.number (bound_group_vars l.keys) (environment_of l.env)) 1 (frame_tuples (into_iter_items l.initial.frame-iterator)))
    × AllHaveKeys (length l.keys) l.out.items
    × (into_iter_len l.frame-iterator ≡ length (into_iter_items l.frame-iterator))
    × (l.position + into_iter_len l.frame-iterator ≡ l.count)
