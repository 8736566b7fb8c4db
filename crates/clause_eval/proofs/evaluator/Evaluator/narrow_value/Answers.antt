use Rattle.std.proofs.Common.{◌+◌, ◌-◌, length, sym, subst, arith}
use Rattle.query_tree.specs.BoundViews.{bound_clauses}
use Rattle.query_meaning.specs.inside.Gives.{FailsAs}
use Rattle.query_meaning.specs.inside.Views.{environment_of, eval_in}
use Rattle.query_meaning.specs.declared.fault.EvalFault.{EvalFault}
use Rattle.clause_eval.specs.Carrying.{body_tree, steps_of, known_of, IsLast}
use Rattle.clause_eval.specs.NarrowRuns.{came_value, TellsOf}
use Rattle.clause_eval.specs.Frames.{tuples_of}
use Rattle.clause_eval.specs.declared.progress.Told.{Told}
use Rattle.clause_eval.proofs.evaluator.Evaluator.narrow_value.Goals as goal

pub returns-in-Whole : goal.returns-in-Whole
returns-in-Whole g c = λ stream.
    let env = c.args.env.now in let body = body_tree c.args.body in let cs = c.args.clauses.now in
    let last = c.args.number + length cs + steps_of body - 1 in
    let h : IsLast c.args.number cs body last = omega arith in
    (subst (λ (k : Told). TellsOf last c.past-full.result (came_value (eval_in env) c.args.number stream (bound_clauses cs) body (environment_of env) (tuples_of c.args.frames)) (known_of k)) c.in-Whole.is
    (c.in_ok-progress.ensures.runs last h stream).tells).1

pub returns-in-Met : goal.returns-in-Met
returns-in-Met g c = λ stream.
    let env = c.args.env.now in let body = body_tree c.args.body in let cs = c.args.clauses.now in
    let last = c.args.number + length cs + steps_of body - 1 in
    let h : IsLast c.args.number cs body last = omega arith in
    let meant = came_value (eval_in env) c.args.number stream (bound_clauses cs) body (environment_of env) (tuples_of c.args.frames) in
    subst (λ (f : EvalFault). FailsAs f meant) (sym c.at_tuple.ensures)
    (subst (λ (k : Told). TellsOf last c.past-full.result meant (known_of k)) c.in-Met.is (c.in_ok-progress.ensures.runs last h stream).tells).1
