use Rattle.std.proofs.Common.{length}
use Rattle.query_meaning.specs.inside.Views.{environment_of, eval_in}
use Rattle.clause_eval.specs.Carrying.{body_tree}
use Rattle.clause_eval.specs.Frames.{frame_tuple}
use Rattle.clause_eval.specs.Waits.{waits_of, size_left, Left}
use Rattle.clause_eval.proofs.evaluator.Evaluator.carry_one.Given as goal

-- what waits is all that is left of the tuple
abbrev pub invariant-loop-top : goal.invariant-loop-top
invariant-loop-top g l = Left (eval_in l.env) (environment_of l.env) l.number l.clauses (body_tree l.body) (frame_tuple l.fn.frame) (waits_of l.waiting.items) l.initial.progress l.progress

-- how much is left
abbrev pub decreases-loop-top : goal.decreases-loop-top
decreases-loop-top g l = size_left (eval_in l.env) l.clauses (environment_of l.env) (waits_of l.waiting.items) (length l.waiting.items)
