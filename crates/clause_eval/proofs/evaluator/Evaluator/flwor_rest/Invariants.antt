use Rattle.std.proofs.Common.{◌≡◌, ◌+◌, ◌-◌, ◌≤◌, length, take, drop}
use Rattle.query_tree.specs.BoundViews.{bound_tree, bound_clauses}
use Rattle.query_tree.specs.Scoped.{clause_slots}
use Rattle.query_meaning.specs.Flwors.{flwor_from}
use Rattle.query_meaning.specs.inside.Views.{environment_of, eval_in}
use Rattle.clause_eval.specs.Frames.{tuples_of}
use Rattle.clause_eval.proofs.evaluator.Evaluator.flwor_rest.Given as goal

abbrev pub invariant-loop-frames : goal.invariant-loop-frames
invariant-loop-frames g l =
    (flwor_from (eval_in l.env) (l.index + 1) (clause_slots (bound_clauses (take l.index l.clauses))) (bound_clauses (drop l.index l.clauses)) (bound_tree l.body) (environment_of l.env) (tuples_of l.frames)
    ≡ flwor_from (eval_in l.env) (l.passed + 1) (clause_slots (bound_clauses (take l.passed l.clauses))) (bound_clauses (drop l.passed l.clauses)) (bound_tree l.body) (environment_of l.env) (tuples_of l.fn.first))
    × (l.index ≤ length l.clauses)

abbrev pub decreases-loop-frames : goal.decreases-loop-frames
decreases-loop-frames g l = length l.clauses + 1 - l.index
