use Rattle.std.proofs.Common.{ap, ◌∙◌}
use Rattle.std.specs.Prelude.{option_map}
use Rattle.query_tree.specs.BoundViews.{bound_tree, bound_binds}
use Rattle.query_meaning.specs.inside.Views.{environment_of, eval_in, items_of, tuple_of}
use Rattle.expr_eval.specs.Searches.{innermost, open_of}
use Rattle.expr_eval.proofs.SearchSteps.{told, fails_search, closes_search, binds_search, fewer_closed, fewer_bound, fewer_if}
use Rattle.expr_eval.proofs.kinds.Kinds.moves.Goals as goal

pub returns-in-Err-clause-comes_to : goal.returns-in-Err-clause-comes_to
returns-in-Err-clause-comes_to g c =
    fails_search (eval_in c.args.env.now) c.args.quantifier (bound_tree c.args.test.now) (environment_of c.args.env.now) (open_of c.args.binding) (innermost c.args.search.now.bindings.items) (tuple_of c.args.search.now.frame.items) c.in-Err.fault c.in-Err.ensures.gives

pub returns-in-Ok-None-clause-comes_to : goal.returns-in-Ok-None-clause-comes_to
returns-in-Ok-None-clause-comes_to g c =
    closes_search (eval_in c.args.env.now) c.args.quantifier (bound_tree c.args.test.now) (environment_of c.args.env.now) (open_of c.args.binding) (open_of c.next_value.new.self) (innermost c.args.search.now.bindings.items) _ (tuple_of c.args.search.now.frame.items) _
    (c.in-Ok-None.ensures.gives ∙ ap (λ o. told (option_map items_of o)) c.in-Ok-None.field-0-is) c.in-Ok-None.ensures.left (ap innermost c.closes.ensures.bindings) c.closes.ensures.frame

pub returns-in_ok-binds-in-Ok-Some-clause-comes_to : goal.returns-in_ok-binds-in-Ok-Some-clause-comes_to
returns-in_ok-binds-in-Ok-Some-clause-comes_to g c =
    binds_search (eval_in c.args.env.now) c.args.quantifier (bound_tree c.args.test.now) (environment_of c.args.env.now) (open_of c.args.binding) (open_of c.next_value.new.self) (innermost c.args.search.now.bindings.items) _ (tuple_of c.args.search.now.frame.items) _ (items_of c.in-Ok-Some.value) (bound_binds c.rest-rest.result.now) c.goes_in.result _
    (c.in-Ok-Some.ensures.gives ∙ ap (λ o. told (option_map items_of o)) c.in-Ok-Some.field-0-is) c.in-Ok-Some.ensures.left c.rest-rest.ensures c.in_ok-binds-in-Ok-Some.ensures.bindings c.in_ok-binds-in-Ok-Some.ensures.frame c.goes_in.ensures.comes_to

pub returns-in-Ok-None-clause-fewer : goal.returns-in-Ok-None-clause-fewer
returns-in-Ok-None-clause-fewer g c = rw c.closes.ensures.bindings (fewer_closed (open_of c.args.binding) (innermost c.args.search.now.bindings.items))

pub returns-in_ok-binds-in-Ok-Some-clause-fewer : goal.returns-in_ok-binds-in-Ok-Some-clause-fewer
returns-in_ok-binds-in-Ok-Some-clause-fewer g c =
    fewer_if c.goes_in.result _ _ _
    (fewer_bound (open_of c.args.binding) (open_of c.next_value.new.self) (innermost c.args.search.now.bindings.items) _ (items_of c.in-Ok-Some.value) (bound_binds c.rest-rest.result.now) _
    (c.in-Ok-Some.ensures.gives ∙ ap (λ o. told (option_map items_of o)) c.in-Ok-Some.field-0-is) c.in-Ok-Some.ensures.left c.rest-rest.ensures c.in_ok-binds-in-Ok-Some.ensures.bindings)
    c.goes_in.ensures.fewer
