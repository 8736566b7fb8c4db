use Rattle.std.proofs.Common.{◌≡◌, drop, get_or}
use Rattle.query_tree.specs.BoundViews.{bound_order_keys}
use Rattle.query_meaning.specs.Orders.{column_places}
use Rattle.clause_eval.proofs.order.column_place.Given as goal

abbrev pub invariant-loop-key : goal.invariant-loop-key
invariant-loop-key l =
    get_or (column_places (bound_order_keys (drop l.key-index l.keys))) l.left 0 ≡ get_or (column_places (bound_order_keys l.keys)) l.column 0
