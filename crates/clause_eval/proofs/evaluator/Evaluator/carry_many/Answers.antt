use Rattle.std.proofs.Common.{length, sym, ◌∙◌}
use Rattle.query_meaning.specs.inside.Views.{environment_of, eval_in}
use Rattle.clause_eval.specs.Carrying.{body_tree}
use Rattle.clause_eval.specs.Waits.{waits_of}
use Rattle.clause_eval.proofs.Carrying.{if_ok_both}
use Rattle.clause_eval.proofs.Waits.{none_turned, none_left, many_turned, first_within}
use Rattle.clause_eval.proofs.evaluator.Evaluator.carry_many.Goals as goal

pub returns-in-None : goal.returns-in-None
returns-in-None g c = none_turned (eval_in c.args.env.now) (environment_of c.args.env.now) c.args.number c.args.clauses.now (body_tree c.args.body) _ (waits_of c.args.others.items) (length c.args.others.items) c.args.progress.now
    (none_left c.args.passed c.args.frames.items (waits_of c.args.others.items) (sym c.args.frames.ok.0 ∙ c.in-None.ensures.cases.0))

pub carry_next-requires-clause-within : goal.carry_next-requires-clause-within
carry_next-requires-clause-within g c = first_within (length c.args.clauses.now) c.args.passed c.args.frames.items _ c.in-Some.frame c.in-Some.ensures.items c.requires.within

pub returns : goal.returns
returns g c =
    if_ok_both c.carry_next.result _ _ _
    (λ v step lists. many_turned (eval_in c.args.env.now) (environment_of c.args.env.now) c.args.number c.args.clauses.now (body_tree c.args.body) c.args.passed c.args.frames.items _ c.in-Some.frame (waits_of c.args.others.items) _ (waits_of v.items) (length c.args.others.items) _ (length v.items) c.args.progress.now _
    c.in-Some.ensures.items c.in_ok-behind-in-Some.ensures.waits c.in_ok-behind-in-Some.ensures.lists lists
    (first_within (length c.args.clauses.now) c.args.passed c.args.frames.items _ c.in-Some.frame c.in-Some.ensures.items c.requires.within) step)
    c.carry_next.ensures.step c.carry_next.ensures.lists
