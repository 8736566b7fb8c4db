use Rattle.query_tree.specs.BoundViews.{bound_tree}
use Rattle.query_meaning.specs.inside.Views.{environment_of, eval_in, items_of, tuple_of}
use Rattle.expr_eval.specs.Searches.{innermost}
use Rattle.std.proofs.lemmas.Result.{err_from_is_err_and}
use Rattle.expr_eval.proofs.TestSteps.{first_is}
use Rattle.expr_eval.proofs.SearchSteps.{fails_test, test_decides, test_passes, fails_first, opens_first, want_only, fewer_tested, fewer_opened}
use Rattle.expr_eval.proofs.kinds.Kinds.goes_in.Goals as goal

pub returns-in_err-holds-in-empty-clause-comes_to : goal.returns-in_err-holds-in-empty-clause-comes_to
returns-in_err-holds-in-empty-clause-comes_to g c =
    let p = err_from_is_err_and c.from_residual.result c.from_residual.ensures.1 in
    rw (p.1, p.2) (fails_test (eval_in c.args.env.now) c.args.quantifier (bound_tree c.args.test.now) (environment_of c.args.env.now) c.args.binds.now (innermost c.args.search.now.bindings.items) _ _ _ c.in-empty.len_below c.deref.ensures.value c.in_err-holds-in-empty.ensures)

pub returns-then-decides-clause-comes_to : goal.returns-then-decides-clause-comes_to
returns-then-decides-clause-comes_to g c =
    test_decides (eval_in c.args.env.now) c.args.quantifier (bound_tree c.args.test.now) (environment_of c.args.env.now) c.args.binds.now (innermost c.args.search.now.bindings.items) _ _ _ _ c.in-empty.len_below c.deref.ensures.value c.in_ok-holds-in-empty.ensures c.decides.ensures c.if-decides.true

pub returns-else-decides-clause-comes_to : goal.returns-else-decides-clause-comes_to
returns-else-decides-clause-comes_to g c =
    test_passes (eval_in c.args.env.now) c.args.quantifier (bound_tree c.args.test.now) (environment_of c.args.env.now) c.args.binds.now (innermost c.args.search.now.bindings.items) _ _ _ _ c.in-empty.len_below c.deref.ensures.value c.in_ok-holds-in-empty.ensures c.decides.ensures c.if-decides.false

pub returns-in_err-items-in-len1-up-clause-comes_to : goal.returns-in_err-items-in-len1-up-clause-comes_to
returns-in_err-items-in-len1-up-clause-comes_to g c =
    let p = err_from_is_err_and c.from_residual-in_err-items-in-len1-up.result c.from_residual-in_err-items-in-len1-up.ensures.1 in
    rw (p.1, p.2) (fails_first (eval_in c.args.env.now) c.args.quantifier (bound_tree c.args.test.now) (environment_of c.args.env.now) c.args.binds.now _ c.bind-item.result (innermost c.args.search.now.bindings.items) _ c.deref-in-len1-up.result.now c.args.search.now.frame.items c.deref-in-len1-up.ensures.value
    (first_is c.args.binds.now c.bind-item.result c.in-len1-up.len_at_least c.bind-item.is) c.in_err-items-in-len1-up.ensures)

pub returns-in_err-opens-in-len1-up-clause-comes_to : goal.returns-in_err-opens-in-len1-up-clause-comes_to
returns-in_err-opens-in-len1-up-clause-comes_to g c =
    let p = err_from_is_err_and c.from_residual-in_err-opens-in-len1-up.result c.from_residual-in_err-opens-in-len1-up.ensures.1 in
    rw (p.1, p.2) (want_only (Unit {0}) _ _ c.in_err-opens-in-len1-up.ensures.fails)

pub returns-in_ok-opens-in-len1-up-clause-comes_to : goal.returns-in_ok-opens-in-len1-up-clause-comes_to
returns-in_ok-opens-in-len1-up-clause-comes_to g c =
    opens_first (eval_in c.args.env.now) c.args.quantifier (bound_tree c.args.test.now) (environment_of c.args.env.now) c.args.binds.now _ c.bind-item.result (innermost c.args.search.now.bindings.items) _ c.deref-in-len1-up.result.now c.args.search.now.frame.items _ _ c.deref-in-len1-up.ensures.value
    (first_is c.args.binds.now c.bind-item.result c.in-len1-up.len_at_least c.bind-item.is) c.in_ok-items-in-len1-up.ensures c.in_ok-opens-in-len1-up.ensures.bindings c.in_ok-opens-in-len1-up.ensures.frame

pub returns-then-decides-clause-fewer : goal.returns-then-decides-clause-fewer
returns-then-decides-clause-fewer g c = fewer_tested c.args.binds.now (innermost c.args.search.now.bindings.items) c.in-empty.len_below

pub returns-else-decides-clause-fewer : goal.returns-else-decides-clause-fewer
returns-else-decides-clause-fewer g c = fewer_tested c.args.binds.now (innermost c.args.search.now.bindings.items) c.in-empty.len_below

pub returns-in_ok-opens-in-len1-up-clause-fewer : goal.returns-in_ok-opens-in-len1-up-clause-fewer
returns-in_ok-opens-in-len1-up-clause-fewer g c =
    fewer_opened c.args.binds.now _ c.bind-item.result (innermost c.args.search.now.bindings.items) _ (tuple_of c.args.search.now.frame.items) (items_of c.in_ok-items-in-len1-up.items)
    (first_is c.args.binds.now c.bind-item.result c.in-len1-up.len_at_least c.bind-item.is) c.in_ok-opens-in-len1-up.ensures.bindings c.in_ok-opens-in-len1-up.ensures.count
