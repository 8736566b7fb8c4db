use Rattle.std.proofs.Common.{◌<◌, ◌≤◌, arith}
use Rattle.query_tree.specs.BoundViews.{bound_order_keys}
use Rattle.query_meaning.specs.inside.Views.{environment_of, eval_in}
use Rattle.clause_eval.specs.Frames.{tuples_of}
use Rattle.piece_run.specs.Outcomes.{CameIs}
use Rattle.piece_run.proofs.OrderedNext.{orders_clean, orders_met}
use Rattle.piece_run.proofs.order.orders_at.Goals as goal

pub returns-then-limit-at-clause-outcome : goal.returns-then-limit-at-clause-outcome
returns-then-limit-at-clause-outcome g c =
    let env = c.args.env.now in
    let le : c.args.limit ≤ c.args.at = omega (arith, c.if-limit-at.true) in
    orders_clean (CameIs g.I.ItemsKept.stands) (eval_in env) (bound_order_keys c.args.keys.now) (environment_of env) c.args.at c.args.limit (tuples_of c.args.tuples) le

pub returns-clause-outcome : goal.returns-clause-outcome
returns-clause-outcome g c =
    let env = c.args.env.now in
    let less : c.args.at < c.args.limit = omega (arith, c.if-limit-at.false) in
    orders_met (CameIs g.I.ItemsKept.stands) (eval_in env) (bound_order_keys c.args.keys.now) (environment_of env) c.args.at c.args.limit (tuples_of c.args.tuples) c.in_ok-entries.field-0 c.in-Met.m c.in-Met.seen c.in-Met.is c.in_ok-entries.ensures.value less
