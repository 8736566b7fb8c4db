use Rattle.order_runs.specs.Orders.{below}
use Rattle.order_runs.proofs.StableOrder.{ordered_is, is_ordered}
use Rattle.order_runs.proofs.TotalKeys.{below_weak}
use Rattle.order_runs.proofs.laws.orders_are_one.Goals as goal

pub returns : goal.returns
returns c = record {
  exists = λ columns X. ordered_is (below columns) (below_weak c.keys_agree.ensures columns) X;
  only = λ columns X Y h. is_ordered (below columns) (below_weak c.keys_agree.ensures columns) X Y h;
}
