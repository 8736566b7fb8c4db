use Rattle.std.proofs.Common.{rules}
use Rattle.std.proofs.lemmas.Fn.{always_returns_same}
use Rattle.order_runs.specs.Orders.{IsOrdered}
use Rattle.order_runs.specs.Runs.{keyed_below}
use Rattle.order_runs.proofs.StableOrder.{is_ordered}
use Rattle.order_runs.proofs.TotalKeys.{keyed_weak}
use Rattle.order_runs.proofs.run.sort_keyed.Goals as goal

pub returns : goal.returns
returns g c =
    let weak = keyed_weak c.keys_agree.ensures c.args.columns.now in
    let one : IsOrdered (keyed_below c.args.columns.now) c.args.entries.items c.sort_by.new.self.items = record {
      ascends = c.in_ok-sort_by.ensures.sorted (keyed_below c.args.columns.now) weak (always_returns_same _ _ _ (λ a r q k. search rules));
      stable = c.sort_by.ensures.stable (keyed_below c.args.columns.now) weak (always_returns_same _ _ _ (λ a r q k. search rules));
    } in
    is_ordered (keyed_below c.args.columns.now) weak _ _ one
