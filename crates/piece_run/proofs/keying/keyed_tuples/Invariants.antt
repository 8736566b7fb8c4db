use Rattle.std.proofs.Common.{◌≡◌, ◌+◌, length}
use Rattle.std.specs.Vec.Iter.{into_iter_items, into_iter_len}
use Rattle.query_tree.specs.BoundViews.{bound_group_vars}
use Rattle.query_meaning.specs.inside.Views.{environment_of, eval_in}
use Rattle.stage_laws.specs.Runs.{with_front, each_from}
use Rattle.clause_stages.specs.Ends.{group_keyed}
use Rattle.clause_eval.specs.Frames.{frame_tuples, entries_of}
use Rattle.clause_eval.specs.Grouping.{AllHaveKeys}
use Rattle.piece_outcomes.specs.Came.{Seen}
use Rattle.piece_run.proofs.keying.keyed_tuples.Given as goal

abbrev pub invariant-loop-frame : goal.invariant-loop-frame
invariant-loop-frame g l =
    (with_front (entries_of l.out) (each_from {K = Seen} l.at (group_keyed (eval_in l.env) (bound_group_vars l.keys) (environment_of l.env)) (l.position + 1) (frame_tuples (into_iter_items l.frame-iterator)))
    ≡ each_from l.at (group_keyed (eval_in l.env) (bound_group_vars l.keys) (environment_of l.env)) 1 (frame_tuples (into_iter_items l.initial.frame-iterator)))
    × AllHaveKeys (length l.keys) l.out.items
    × (into_iter_len l.frame-iterator ≡ length (into_iter_items l.frame-iterator))
    × (l.position + into_iter_len l.frame-iterator ≡ l.count)
