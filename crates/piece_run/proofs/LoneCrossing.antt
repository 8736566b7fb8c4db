-- What is kept of a lone call's items may be sent to other threads, and its job be seen by several.
use denote.Param.Send.{IsSend, IsSync, sendable}
use denote.Ref
use denote.RattleType.{RattleType}
use Rattle.std.proofs.Crossing.{crosses}
use Rattle.line_pieces.proofs.cut.Cut.TheSendSync as cut
use Rattle.piece_outcomes.specs.contracts.outcome.Counted as counted
use Rattle.piece_outcomes.proofs.outcome.Counted.TheSendSync as counted_laws
use Rattle.piece_run.specs.contracts.lone_lines.ItemsCame as came
use Rattle.piece_run.specs.contracts.lone_lines.LinesJob as job

came_sent : (K : RattleType) → IsSend K → IsSend (came.the_row K)
came_sent K kept = search (sendable, crosses) depth 20

pub lone_counted_sent : (K : RattleType) → IsSend K → IsSend (counted.the_row (came.the_row K))
lone_counted_sent K kept = counted_laws.the_send (came.the_row K) (came_sent K kept)

pub lines_job_seen : (a t : Ref.NamedLft) (T S K : RattleType) → IsSync T → IsSync S → IsSync K → IsSync (job.the_row a t T S K)
lines_job_seen a t T S K told file kept = search (sendable, crosses, cut.the_sync) depth 20
