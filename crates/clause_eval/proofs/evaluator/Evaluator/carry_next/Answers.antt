use Rattle.std.proofs.Common.{◌≡◌, ◌+◌, ◌≤◌, length, Option, subst, arith}
use Rattle.query_tree.specs.BoundViews.{bound_clause}
use Rattle.query_meaning.specs.inside.Views.{environment_of, eval_in}
use Rattle.clause_eval.specs.Carrying.{body_tree, Stepped}
use Rattle.clause_eval.specs.Frames.{frame_tuple}
use Rattle.clause_eval.specs.OneByOne.{tuples_at}
use Rattle.clause_eval.specs.Waits.{waits_of}
use Rattle.clause_eval.specs.declared.progress.Given.{Given}
use Rattle.clause_eval.proofs.Carrying.{if_ok}
use Rattle.clause_eval.proofs.Waits.{up_one, is_up, out_advanced, stop_advanced, go_advanced}
use Rattle.clause_eval.proofs.evaluator.Evaluator.carry_next.Goals as goal

pub returns-then-passed-clauses : goal.returns-then-passed-clauses
returns-then-passed-clauses g c =
    let env = c.args.env.now in record {
      step = out_advanced (eval_in env) (environment_of env) c.args.number c.args.clauses.now (body_tree c.args.body) c.args.passed (frame_tuple c.args.frame) (waits_of c.args.others.items)
          c.args.progress.now c.carry_out.new.progress c.if-passed-clauses.true c.in_ok-carry_out.ensures;
      lists = up_one (length c.args.others.items);
    }

pub returns-in-None : goal.returns-in-None
returns-in-None g c =
    let env = c.args.env.now in let cs = c.args.clauses.now in let k = c.args.passed in let clause = c.index-clauses-passed.result in let t = frame_tuple c.args.frame in
    let le : k ≤ length cs = c.requires.within in let ne : k ≡ length cs → ⊥ = c.if-passed-clauses.false in record {
      step = stop_advanced (eval_in env) (environment_of env) c.args.number cs (body_tree c.args.body) k t clause (waits_of c.args.others.items) c.args.progress.now c.clause_step.new.progress (omega arith) c.index-clauses-passed.is
          (subst (λ (r : Option Given). Stepped (c.args.number + k) (tuples_at (eval_in env) (bound_clause clause) (environment_of env) 0 t) c.args.progress.now c.clause_step.new.progress r) c.in-None.is c.in_ok-clause_step.ensures);
      lists = up_one (length c.args.others.items);
    }

pub returns-in-Some : goal.returns-in-Some
returns-in-Some g c =
    let env = c.args.env.now in let cs = c.args.clauses.now in let k = c.args.passed in let clause = c.index-clauses-passed.result in let t = frame_tuple c.args.frame in
    let le : k ≤ length cs = c.requires.within in let ne : k ≡ length cs → ⊥ = c.if-passed-clauses.false in record {
      step = if_ok c.with_given.result _ _
          (λ v h. go_advanced (eval_in env) (environment_of env) c.args.number cs (body_tree c.args.body) k t clause c.in-Some.given (waits_of c.args.others.items) (waits_of v.items) c.args.progress.now c.clause_step.new.progress (omega arith) c.index-clauses-passed.is
          (subst (λ (r : Option Given). Stepped (c.args.number + k) (tuples_at (eval_in env) (bound_clause clause) (environment_of env) 0 t) c.args.progress.now c.clause_step.new.progress r) c.in-Some.is c.in_ok-clause_step.ensures) h)
          c.with_given.ensures.waits;
      lists = if_ok c.with_given.result _ _ (λ v h. is_up (length v.items) (length c.args.others.items + 1) h) c.with_given.ensures.lists;
    }
