use Rattle.std.proofs.Common.{length, subst}
use Rattle.piece_outcomes.specs.declared.outcome.OrderOutcome.{OrderOutcome}
use Rattle.piece_outcomes.specs.Counting.{taken_by}
use Rattle.piece_outcomes.specs.Orders.{OutcomeIs}
use Rattle.piece_outcomes.proofs.Clashing.{then_met}
use Rattle.piece_outcomes.proofs.orders.behind_whole.Goals as goal

pub returns-in_ok-known-in-Met-clause-known : goal.returns-in_ok-known-in-Met-clause-known
returns-in_ok-known-in-Met-clause-known g c = λ ks o hk ho.
    then_met g.W.Kept.stands c.args.step c.args.places.now (taken_by c.args.into.now) c.args.limit ks c.in-Met.met c.in_ok-met-in-Met.met c.in-Met.own o c.in_ok-known-in-Met.known
    (subst (λ (x : OrderOutcome _). OutcomeIs g.W.Kept.stands x o) c.in-Met.is ho) c.in_ok-met-in-Met.ensures
    (λ e is seen. c.in_ok-known-in-Met.ensures.known ks e hk.keys is seen)

pub returns-in_ok-known-in-Met-clause-wide : goal.returns-in_ok-known-in-Met-clause-wide
returns-in_ok-known-in-Met-clause-wide g c = c.in_ok-known-in-Met.ensures.wide (length c.args.seen.columns)
