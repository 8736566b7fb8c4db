use denote.Param.Send.{sendable}
use mir.Syntax.{named}
use Rattle.piece_seats.proofs.Crossing.{seat_sent}
use Rattle.piece_run.proofs.Crossing.{order_counted_sent, order_job_seen}
use Rattle.piece_seats.proofs.SeatsStay.{as_many}
use Rattle.piece_run.proofs.run.run_driven_orders.Goals as goal

pub run_pieces-requires-send-J-Seat : goal.run_pieces-requires-send-J-Seat
run_pieces-requires-send-J-Seat g c κs within = search (sendable, seat_sent) depth 20

pub run_pieces-requires-send-J-Out : goal.run_pieces-requires-send-J-Out
run_pieces-requires-send-J-Out g c κs within = search (sendable, order_counted_sent) depth 20

pub run_pieces-requires-sync-J : goal.run_pieces-requires-sync-J
run_pieces-requires-sync-J g c κs within =
    record { shared = (order_job_seen (record { mir = named 0; lft = _ }) (record { mir = named 1; lft = _ }) _ _ _ _ c.type_bounds.sync-F c.type_bounds.sync-T c.type_bounds.sync-S c.type_bounds.sync-I).shared }

pub returns-clause-files : goal.returns-clause-files
returns-clause-files g c = λ k d less. (c.run_pieces.ensures.fits k d less).0

pub returns-clause-many : goal.returns-clause-many
returns-clause-many g c = as_many _ c.args.seats.items c.run_pieces.result.0.items c.run_pieces.ensures.rises
