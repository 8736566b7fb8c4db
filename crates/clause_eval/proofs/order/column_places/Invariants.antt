use Rattle.std.proofs.Common.{◌≡◌, ◌++◌, drop}
use Rattle.query_tree.specs.BoundViews.{bound_order_keys}
use Rattle.query_meaning.specs.Orders.{column_places}
use Rattle.clause_eval.proofs.order.column_places.Given as goal

abbrev pub invariant-loop-key : goal.invariant-loop-key
invariant-loop-key l =
    (l.places.items ++ column_places (bound_order_keys (drop l.key-index l.keys))) ≡ column_places (bound_order_keys l.keys)
