use Rattle.std.proofs.Common.{sym, subst, ap, [], ◌∷◌, Option, OnOk}
use Rattle.query_tree.specs.Bound.{BoundTree}
use Rattle.query_tree.specs.BoundViews.{bound_tree}
use Rattle.query_meaning.specs.inside.Views.{environment_of, eval_in}
use Rattle.clause_eval.specs.Carrying.{body_tree, Carries, Returned, returned}
use Rattle.clause_eval.specs.Frames.{frame_tuple}
use Rattle.clause_eval.proofs.Carrying.{return_carries, on_ok}
use Rattle.clause_eval.proofs.evaluator.Evaluator.carry_out.Goals as goal

pub returns-in-Some : goal.returns-in-Some
returns-in-Some g c =
    let env = c.args.env.now in let body = bound_tree c.in-Some.body.now in let t = frame_tuple c.args.frame in
    subst (λ (b : Option BoundTree). OnOk c.return_step.result (Carries (eval_in env) (environment_of env) c.args.number [] b (t ∷ []) c.args.progress.now c.return_step.new.progress))
    (sym (ap body_tree c.in-Some.is))
    (on_ok c.return_step.result (Returned c.args.number (returned (eval_in env) body (environment_of env) t) c.args.progress.now c.return_step.new.progress) _
    (return_carries (eval_in env) (environment_of env) c.args.number body t c.args.progress.now c.return_step.new.progress) c.return_step.ensures)
