use Rattle.std.proofs.Common.{◌≡◌, length}
use Rattle.std.specs.Vec.Iter.{into_iter_items, into_iter_len}
use Rattle.query_meaning.specs.inside.Views.{environment_of, eval_in}
use Rattle.clause_eval.specs.Carrying.{body_tree, CarriesRest}
use Rattle.clause_eval.specs.Frames.{frame_tuples}
use Rattle.clause_eval.proofs.evaluator.Evaluator.carry_all.Given as goal

abbrev pub invariant-loop-frame : goal.invariant-loop-frame
invariant-loop-frame g l =
    CarriesRest (eval_in l.env) (environment_of l.env) l.number l.clauses (body_tree l.body) (frame_tuples (into_iter_items l.initial.frame-iterator)) (frame_tuples (into_iter_items l.frame-iterator)) l.initial.progress l.progress
    × (into_iter_len l.frame-iterator ≡ length (into_iter_items l.frame-iterator))
    × (length l.room.items ≡ 0)
