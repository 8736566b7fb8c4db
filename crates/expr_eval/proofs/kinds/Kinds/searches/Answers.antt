use Rattle.std.proofs.Common.{sym, ◌∙◌}
use Rattle.std.proofs.lemmas.Result.{err_from_is_err_and}
use Rattle.query_tree.specs.BoundViews.{bound_tree}
use Rattle.query_meaning.specs.inside.Views.{environment_of, eval_in, tuple_of}
use Rattle.expr_eval.proofs.SearchSteps.{ends, next_is, decided_by, moved_by, fails_along, fewer_next}
use Rattle.expr_eval.proofs.kinds.Kinds.searches.Goals as goal

pub returns : goal.returns
returns g c =
    c.searching.invariant
    ∙ ends (eval_in c.args.env.now) c.args.quantifier (bound_tree c.args.test.now) (environment_of c.args.env.now) c.searching.search.bindings.items (tuple_of c.searching.search.frame.items) _
    (sym c.searching.search.bindings.ok.0 ∙ c.in_default.ensures.cases.0) c.undecided.ensures

pub returns-in_err-holds : goal.returns-in_err-holds
returns-in_err-holds g c =
    let p = err_from_is_err_and c.from_residual.result c.from_residual.ensures.1 in
    rw (p.1, p.2) (fails_along _ _ _ (c.searching.invariant
    ∙ next_is (eval_in c.args.env.now) c.args.quantifier (bound_tree c.args.test.now) (environment_of c.args.env.now) c.searching.search.bindings.items _ c.in-Some.binding (tuple_of c.searching.search.frame.items) c.in-Some.ensures.items) c.in_err-holds.ensures.comes_to)

pub returns-in-Some-2 : goal.returns-in-Some-2
returns-in-Some-2 g c =
    c.searching.invariant
    ∙ next_is (eval_in c.args.env.now) c.args.quantifier (bound_tree c.args.test.now) (environment_of c.args.env.now) c.searching.search.bindings.items _ c.in-Some.binding (tuple_of c.searching.search.frame.items) c.in-Some.ensures.items
    ∙ decided_by _ _ _ _ c.in_ok-holds.ensures.comes_to c.in-Some-2.is

pub searching-preserved : goal.searching-preserved
searching-preserved g c =
    c.searching.invariant
    ∙ next_is (eval_in c.args.env.now) c.args.quantifier (bound_tree c.args.test.now) (environment_of c.args.env.now) c.searching.search.bindings.items _ c.in-Some.binding (tuple_of c.searching.search.frame.items) c.in-Some.ensures.items
    ∙ moved_by _ _ _ c.in_ok-holds.ensures.comes_to c.in-None.is

pub searching-smaller : goal.searching-smaller
searching-smaller g c = fewer_next c.searching.search.bindings.items _ c.in-Some.binding _ c.in-Some.ensures.items c.in_ok-holds.ensures.fewer
