-- What workers hold may be sent to another thread, and the job that counts lines be seen by several.
use denote.Param.Send.{IsSend, IsSync, sendable}
use denote.Ref
use denote.RattleType.{RattleType}
use Rattle.std.proofs.Crossing.{crosses}
use Rattle.line_pieces.proofs.cut.Cut.TheSendSync as cut
use Rattle.line_pieces.proofs.reader.PieceReader.TheSendSync as pieces
use Rattle.piece_seats.specs.contracts.before.CountJob as job
use Rattle.piece_seats.specs.contracts.folded.Folded as folded
use Rattle.piece_seats.specs.contracts.seat.Seat as seat

pub seat_sent : (S : RattleType) → IsSend S → IsSend (seat.the_row S)
seat_sent S file =
    search (sendable, crosses, pieces.the_send) depth 20

pub folded_sent : (P : RattleType) → IsSend P → IsSend (folded.the_row P)
folded_sent P part = search (sendable, crosses) depth 20

pub folded_seen : (P : RattleType) → IsSync P → IsSync (folded.the_row P)
folded_seen P part = search (sendable, crosses) depth 20

pub job_seen : (a t : Ref.NamedLft) (T S : RattleType) → IsSync T → IsSync S
    → IsSync (job.the_row a t T S)
job_seen a t T S told file = search (sendable, crosses, cut.the_sync) depth 20
