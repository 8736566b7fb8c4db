use Rattle.piece_run.proofs.WholeRuns as law
use Rattle.piece_run.proofs.gathering.gather_whole_orders.Goals as goal

pub gather_orders-requires-clause-wide : goal.gather_orders-requires-clause-wide
gather_orders-requires-clause-wide g c =
    law.all_wide g.W.Kept.stands c.args.places.now c.args.step c.args.pieces c.requires.whole

pub gather_orders-requires-clause-known : goal.gather_orders-requires-clause-known
gather_orders-requires-clause-known g c =
    law.orders_known g.W.Kept.stands c.args.places.now c.args.step c.args.pieces c.requires.whole

pub returns : goal.returns
returns g c =
    law.orders_gathered g.W.Kept.stands c.args.places.now c.args.step c.args.pieces _ c.gather_orders.ensures
