use Rattle.std.proofs.Common.{◌≡◌, drop}
use Rattle.query_tree.specs.BoundViews.{bound_group_vars}
use Rattle.query_meaning.specs.inside.Views.{environment_of, eval_in}
use Rattle.clause_eval.specs.Frames.{keyed_of}
use Rattle.clause_eval.specs.Grouping.{more_keys, HasKeys}
use Rattle.clause_eval.proofs.evaluator.Evaluator.more_keys.Given as goal

abbrev pub invariant-loop-key : goal.invariant-loop-key
invariant-loop-key g l =
    (more_keys (eval_in l.env) (bound_group_vars (drop l.key-index l.keys)) (environment_of l.env) (keyed_of l.entry)
    ≡ more_keys (eval_in l.env) (bound_group_vars l.keys) (environment_of l.env) (keyed_of l.fn.first))
    × HasKeys l.key-index l.entry
