-- The outcomes of a stage may be sent to other threads, and its job be seen by several.
use denote.Param.Send.{IsSend, IsSync, sendable}
use denote.Ref
use denote.RattleType.{RattleType}
use Rattle.std.proofs.Crossing.{crosses}
use Rattle.std.proofs.vec.Vec.TheSendSync as vec
use Rattle.std.proofs.sync.Arc.TheSendSync as arc
use Rattle.std.proofs.option.Option.TheSendSync as option
use Rattle.std.proofs.alloc.Global.TheSendSync as global
use Rattle.item_tree.proofs.text.Str.TheSendSync as str
use Rattle.item_tree.proofs.code.Code.TheSendSync as code
use Rattle.item_tree.proofs.Crossing.{sent_field, sent, seen_field, seen}
use Rattle.query_meaning.specs.contracts.value.Value as value
use Rattle.query_meaning.specs.contracts.library.Sequence as sequence
use Rattle.query_meaning.specs.contracts.library.Held as held
use Rattle.query_meaning.specs.contracts.library.Library as library
use Rattle.clause_eval.specs.contracts.tuples.Frame as frame
use Rattle.clause_eval.proofs.evaluator.Evaluator.TheSendSync as evaluator
use Rattle.clause_eval.proofs.bindings.Binding.TheSendSync as binding
use Rattle.line_pieces.proofs.cut.Cut.TheSendSync as cut
use Rattle.piece_outcomes.specs.contracts.outcome.Counted as counted
use Rattle.piece_outcomes.proofs.outcome.Counted.TheSendSync as counted_laws
use Rattle.piece_outcomes.specs.contracts.outcome.OrderCounted as order_counted
use Rattle.piece_outcomes.proofs.outcome.OrderCounted.TheSendSync as order_counted_laws
use Rattle.query_tree.proofs.bound.Slot.TheSendSync as slot
use Rattle.query_tree.proofs.clause.GroupVar.TheSendSync as group_var
use Rattle.query_tree.proofs.clause.OrderKey.TheSendSync as order_key
use Rattle.query_tree.proofs.names.Placed.TheSendSync as placed
use Rattle.query_tree.proofs.Sharing.{shared_compiled, shared_tree, shared_expr}
use Rattle.piece_run.specs.contracts.came.CameOut as came
use Rattle.piece_run.specs.contracts.stage.StageEnd as end
use Rattle.piece_run.specs.contracts.stage.DrivenStage as stage
use Rattle.piece_run.specs.contracts.job.DrivenJob as job
use Rattle.piece_run.specs.contracts.order_job.DrivenOrderJob as order_job
use Rattle.piece_run.proofs.SharedClauses.{shared_clause}

ruleset parts = (sendable, crosses, vec.the_send, vec.the_sync, arc.the_send, arc.the_sync, option.the_send, option.the_sync, global.the_send, global.the_sync, str.the_send, str.the_sync)

pub value_sent : (a : Ref.NamedLft) → IsSend (value.the_row a)
value_sent a = search (parts, sent_field, sent, seen_field, seen) depth 20

pub value_seen : (a : Ref.NamedLft) → IsSync (value.the_row a)
value_seen a = search (parts, sent_field, sent, seen_field, seen) depth 20

pub frame_sent : (a : Ref.NamedLft) → IsSend (frame.the_row a)
frame_sent a = search (parts, value_sent) depth 20

pub came_sent : (a : Ref.NamedLft) (I : RattleType) → IsSend I → IsSend (came.the_row a I)
came_sent a I kept = search (parts, frame_sent, option.the_field_send, sent, sent_field) depth 20

pub counted_sent : (a : Ref.NamedLft) (I : RattleType) → IsSend I
    → IsSend (counted.the_row (came.the_row a I))
counted_sent a I kept = counted_laws.the_send (came.the_row a I) (came_sent a I kept)

pub order_counted_sent : (a : Ref.NamedLft) (I : RattleType) → IsSend I
    → IsSend (order_counted.the_row (came.the_row a I))
order_counted_sent a I kept = order_counted_laws.the_send (came.the_row a I) (came_sent a I kept)

sequence_field_seen : IsSync (sequence.the_field).row
sequence_field_seen = search (parts, seen) depth 20

sequence_seen : IsSync sequence.the_row
sequence_seen = search (parts, seen) depth 20

held_seen : IsSync held.the_row
held_seen = search (parts, sequence_seen, sequence_field_seen, code.the_sync, code.the_field_sync) depth 20

pub library_seen : IsSync library.the_row
library_seen = search (parts, held_seen) depth 20

end_field_seen : (a : Ref.NamedLft) → IsSync (end.the_field a).row
end_field_seen a =
    search (parts, slot.the_sync, slot.the_field_sync, group_var.the_sync, group_var.the_field_sync, placed.the_sync, placed.the_field_sync, shared_tree, shared_expr) depth 20

pub stage_seen : (a : Ref.NamedLft) (F : RattleType) → IsSync F → IsSync (stage.the_row a F)
stage_seen a F f =
    search (parts, slot.the_sync, slot.the_field_sync, evaluator.the_sync, evaluator.the_field_sync, binding.the_sync, binding.the_field_sync, cut.the_sync, end_field_seen, seen, value_seen, library_seen, shared_compiled, shared_clause) depth 20

stage_field_seen : (a : Ref.NamedLft) (F : RattleType) → IsSync F → IsSync (stage.the_field a F).row
stage_field_seen a F f =
    search (parts, slot.the_sync, slot.the_field_sync, evaluator.the_sync, evaluator.the_field_sync, binding.the_sync, binding.the_field_sync, cut.the_sync, end_field_seen, seen, value_seen, library_seen, shared_compiled, shared_clause) depth 20

pub job_seen : (a t : Ref.NamedLft) (F T S I : RattleType) → IsSync F → IsSync T → IsSync S
    → IsSync I → IsSync (job.the_row a t F T S I)
job_seen a t F T S I f told s i = search (parts, stage_seen, stage_field_seen) depth 20

pub order_job_seen : (a t : Ref.NamedLft) (F T S I : RattleType) → IsSync F → IsSync T → IsSync S
    → IsSync I → IsSync (order_job.the_row a t F T S I)
order_job_seen a t F T S I f told s i =
    search (parts, stage_seen, stage_field_seen, order_key.the_sync, order_key.the_field_sync, shared_tree, shared_expr) depth 20
