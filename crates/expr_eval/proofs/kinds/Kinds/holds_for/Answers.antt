use Rattle.query_tree.specs.BoundViews.{bound_tree, bound_binds}
use Rattle.query_meaning.specs.inside.Views.{environment_of, eval_in, tuple_of}
use Rattle.expr_eval.proofs.SearchSteps.{whole}
use Rattle.expr_eval.proofs.kinds.Kinds.holds_for.Goals as goal

pub returns : goal.returns
unfolding environment_of
returns g c =
    whole (eval_in c.args.env.now) c.args.quantifier (bound_binds c.args.binds.now) (bound_tree c.args.test.now) (environment_of c.args.env.now) c.new.result.items (tuple_of c.in_ok-frame.frame.items) c.enters-holds.result
    c.new.ensures.items c.in_ok-frame.ensures c.enters-holds.ensures
