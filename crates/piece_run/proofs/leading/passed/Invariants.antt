use Rattle.std.proofs.Common.{◌≡◌, ◌+◌, take, drop, []}
use Rattle.query_tree.specs.BoundViews.{bound_clauses}
use Rattle.query_tree.specs.Scoped.{clause_slots}
use Rattle.query_meaning.specs.inside.Views.{environment_of, eval_in}
use Rattle.clause_eval.specs.Frames.{tuples_of}
use Rattle.clause_eval.specs.NarrowRuns.{clauses_value}
use Rattle.piece_run.proofs.leading.passed.Given as goal

abbrev pub invariant-passing : goal.invariant-passing
invariant-passing g l =
    clauses_value (eval_in l.env) (l.index + 1) (clause_slots (bound_clauses (take l.index l.clauses))) (bound_clauses (drop l.index l.clauses)) (environment_of l.env) (tuples_of l.frames)
    ≡ clauses_value (eval_in l.env) 1 [] (bound_clauses l.clauses) (environment_of l.env) (tuples_of l.fn.first)
