use Rattle.std.proofs.Common.{◌≡◌}
use Rattle.query_tree.specs.BoundViews.{bound_tree}
use Rattle.query_meaning.specs.inside.Views.{environment_of, eval_in, tuple_of}
use Rattle.expr_eval.specs.Quantifiers.{searched, moves_left}
use Rattle.expr_eval.specs.Searches.{innermost}
use Rattle.expr_eval.proofs.kinds.Kinds.searches.Given as goal

-- what is open comes to the whole
abbrev pub invariant-searching : goal.invariant-searching
invariant-searching g l =
    searched (eval_in l.env) l.quantifier (bound_tree l.test) (environment_of l.env) (innermost l.fn.search.bindings.items) (tuple_of l.fn.search.frame.items)
    ≡ searched (eval_in l.env) l.quantifier (bound_tree l.test) (environment_of l.env) (innermost l.search.bindings.items) (tuple_of l.search.frame.items)

abbrev pub decreases-searching : goal.decreases-searching
decreases-searching g l = moves_left (innermost l.search.bindings.items)
