use Rattle.std.proofs.Common.{length, subst, sym, ◌++◌, ◌+◌}
use Rattle.query_meaning.specs.inside.Views.{environment_of, eval_in}
use Rattle.clause_eval.specs.Carrying.{body_tree}
use Rattle.clause_eval.specs.Waits.{waits_of, waits_at, left_tuples, Turned}
use Rattle.clause_eval.specs.declared.progress.Given.{Given}
use Rattle.clause_eval.proofs.Carrying.{if_ok, if_ok_both}
use Rattle.clause_eval.proofs.Waits.{one_turned, one_within, many_within}
use Rattle.clause_eval.proofs.evaluator.Evaluator.carry_top.Goals as goal

pub carry_next-requires-clause-within : goal.carry_next-requires-clause-within
carry_next-requires-clause-within g c = one_within (length c.args.clauses.now) c.args.top.passed c.args.top.given c.in-One.frame c.in-One.is c.requires.within

pub carry_many-requires-clause-within : goal.carry_many-requires-clause-within
carry_many-requires-clause-within g c = many_within (length c.args.clauses.now) c.args.top.passed c.args.top.given c.in-Many.frames c.in-Many.is c.requires.within

pub returns-in-One : goal.returns-in-One
returns-in-One g c =
    if_ok_both c.carry_next.result _ _ _
    (λ v step lists. one_turned (eval_in c.args.env.now) (environment_of c.args.env.now) c.args.number c.args.clauses.now (body_tree c.args.body) c.args.top.passed c.args.top.given c.in-One.frame (waits_of c.args.others.items) (waits_of v.items) (length c.args.others.items) (length v.items) c.args.progress.now _
    c.in-One.is lists (one_within (length c.args.clauses.now) c.args.top.passed c.args.top.given c.in-One.frame c.in-One.is c.requires.within) step)
    c.carry_next.ensures.step c.carry_next.ensures.lists

pub returns-in-Many : goal.returns-in-Many
returns-in-Many g c =
    if_ok c.carry_many.result _ _
    (λ v h. subst (λ (x : Given). Turned (eval_in c.args.env.now) (environment_of c.args.env.now) c.args.number c.args.clauses.now (body_tree c.args.body) (waits_at c.args.top.passed (left_tuples x) ++ waits_of c.args.others.items) (length c.args.others.items + 1) (waits_of v.items) (length v.items) c.args.progress.now c.carry_many.new.progress) (sym c.in-Many.is) h)
    c.carry_many.ensures
