use denote.Param.Send.{sendable}
use mir.Syntax.{named}
use Rattle.std.proofs.Common.{ℕ, ◌<◌, IfOk, subst}
use Rattle.piece_board.specs.Whole.{IsWhole}
use Rattle.piece_outcomes.specs.Counting.{told_step}
use Rattle.piece_seats.proofs.Crossing.{seat_sent}
use Rattle.piece_seats.proofs.SeatsStay.{as_many}
use Rattle.piece_run.specs.LoneLines.{IsLonePiece}
use Rattle.piece_run.proofs.LeafClosed.{held_told}
use Rattle.piece_run.proofs.LoneRuns.{lone_some, lines_kept}
use Rattle.piece_run.proofs.LoneCrossing.{lone_counted_sent, lines_job_seen}
use Rattle.piece_run.proofs.lone_lines.run_lines.Goals as goal

pub run_pieces-seats-requires-send-J-Seat : goal.run_pieces-seats-requires-send-J-Seat
run_pieces-seats-requires-send-J-Seat g c κs within = search (sendable, seat_sent) depth 20

pub run_pieces-seats-requires-send-J-Out : goal.run_pieces-seats-requires-send-J-Out
run_pieces-seats-requires-send-J-Out g c κs within = search (sendable, lone_counted_sent) depth 20

pub run_pieces-seats-requires-sync-J : goal.run_pieces-seats-requires-sync-J
run_pieces-seats-requires-sync-J g c κs within =
    record { shared = (lines_job_seen (record { mir = named 0; lft = _ }) (record { mir = named 1; lft = _ }) _ _ _ c.type_bounds.sync-T c.type_bounds.sync-S c.type_bounds.sync-K).shared }

pub gathered-requires : goal.gathered-requires
gathered-requires g c =
    let cut = c.args.cut.now in
    let told = g.T.FilesTold.told c.args.told.now in
    let whole = subst (λ r. IfOk r (λ p. IsWhole told_step (IsLonePiece g.K.ItemsKept.stands c.args.place cut told) c.pieces.result 1 p.done.items p.events.items)) c.in-Ok.is c.run_pieces-seats.ensures.whole in
    lone_some g.K.ItemsKept.stands c.args.place c.pieces.result c.in-Ok.pieces cut told whole

pub returns-in-Ok-clause-value : goal.returns-in-Ok-clause-value
returns-in-Ok-clause-value g c = λ files is.
    let cut = c.args.cut.now in
    let told = g.T.FilesTold.told c.args.told.now in
    let whole = subst (λ r. IfOk r (λ p. IsWhole told_step (IsLonePiece g.K.ItemsKept.stands c.args.place cut told) c.pieces.result 1 p.done.items p.events.items)) c.in-Ok.is c.run_pieces-seats.ensures.whole in
    lines_kept c.pieces_are_whole.ensures c.pieces_are_told.ensures cut (subst (λ (n : ℕ). 0 < n) c.size-size.ensures.value c.size-size.ensures.some) told (held_told g.S.InputFile.held cut told c.args.seats.items c.requires.some c.requires.files) files is
    g.K.ItemsKept.stands c.args.place c.in-Ok.pieces c.gathered.result
    (subst (λ (n : ℕ). IsWhole told_step (IsLonePiece g.K.ItemsKept.stands c.args.place cut told) n 1 c.in-Ok.pieces.done.items c.in-Ok.pieces.events.items) c.pieces.ensures.value whole)
    c.gathered.ensures.value

pub returns-in-Ok-clause-many : goal.returns-in-Ok-clause-many
returns-in-Ok-clause-many g c = as_many _ c.args.seats.items c.run_pieces-seats.result.0.items c.run_pieces-seats.ensures.rises

pub returns-in-Err-Job-clause-many : goal.returns-in-Err-Job-clause-many
returns-in-Err-Job-clause-many g c = as_many _ c.args.seats.items c.run_pieces-seats.result.0.items c.run_pieces-seats.ensures.rises

pub returns-in-Err-NoMemory-clause-many : goal.returns-in-Err-NoMemory-clause-many
returns-in-Err-NoMemory-clause-many g c = as_many _ c.args.seats.items c.run_pieces-seats.result.0.items c.run_pieces-seats.ensures.rises
