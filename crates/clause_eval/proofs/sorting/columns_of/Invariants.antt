use Rattle.std.proofs.Common.{◌≡◌, ◌++◌, drop}
use Rattle.query_tree.specs.BoundViews.{bound_order_keys}
use Rattle.query_meaning.specs.Orders.{columns_of}
use Rattle.clause_eval.proofs.sorting.columns_of.Given as goal

abbrev pub invariant-loop-key : goal.invariant-loop-key
invariant-loop-key l =
    (l.columns.items ++ columns_of (bound_order_keys (drop l.key-index l.keys))) ≡ columns_of (bound_order_keys l.keys)
