-- A clause of a compiled tree, and a key of a grouping, may be seen by several threads at once.
use denote.Param.Send.{IsSync, sendable}
use Rattle.seq_types.specs.contracts.types.SeqType as types
use Rattle.query_tree.specs.contracts.bound.Slot as slot
use Rattle.query_tree.specs.contracts.bound.Target as target
use Rattle.query_tree.specs.contracts.clause.Clause as clause
use Rattle.query_tree.proofs.clause.Clause.TheLaws.TheKnot.{sync-Clause}
use Rattle.std.proofs.option.Option.TheSendSync as option
use Rattle.std.proofs.vec.Vec.TheSendSync as vec
use Rattle.std.proofs.boxed.Box.TheSendSync as boxed
use Rattle.std.proofs.alloc.Global.TheSendSync as global
use Rattle.item_tree.proofs.text.Str.TheSendSync as str
use Rattle.item_tree.proofs.number.Whole.TheSendSync as whole
use Rattle.item_tree.proofs.number.Units.TheSendSync as units
use Rattle.seq_types.proofs.types.SeqType.TheSendSync as types_sync
use Rattle.query_tree.proofs.bound.Slot.TheSendSync as slot_sync
use Rattle.query_tree.proofs.bound.Target.TheSendSync as target_sync
use Rattle.query_tree.proofs.names.Placed.TheSendSync as placed
use Rattle.query_tree.proofs.clause.GroupVar.TheSendSync as group_var
use Rattle.query_tree.proofs.clause.OrderKey.TheSendSync as order_key
use Rattle.query_tree.proofs.part.Operand.TheSendSync as operand
use Rattle.query_tree.proofs.part.Term.TheSendSync as term
use Rattle.query_tree.proofs.part.Factor.TheSendSync as factor
use Rattle.query_tree.proofs.part.Bind.TheSendSync as bind
use Rattle.query_tree.proofs.part.Case.TheSendSync as case
use Rattle.query_tree.proofs.part.TypeCase.TheSendSync as type_case
use Rattle.query_tree.proofs.part.Catch.TheSendSync as catch
use Rattle.query_tree.proofs.part.Pair.TheSendSync as pair
use Rattle.query_tree.proofs.step.Step.TheSendSync as step
use Rattle.query_tree.proofs.operator.SumOp.TheSendSync as sum_op
use Rattle.query_tree.proofs.operator.CompareOp.TheSendSync as compare_op
use Rattle.query_tree.proofs.operator.Quantifier.TheSendSync as quantifier

ruleset parts = (sendable, option.the_sync, vec.the_sync, boxed.the_sync, global.the_sync, str.the_sync, whole.the_sync, units.the_sync, types_sync.the_sync, slot_sync.the_sync, target_sync.the_sync, placed.the_sync, group_var.the_sync, order_key.the_sync, operand.the_sync, term.the_sync, factor.the_sync, bind.the_sync, case.the_sync, type_case.the_sync, catch.the_sync, pair.the_sync, step.the_sync, sum_op.the_sync, compare_op.the_sync, quantifier.the_sync)

ruleset fields = (sendable, option.the_sync, vec.the_sync, boxed.the_sync, global.the_sync, str.the_sync, whole.the_sync, units.the_sync, types_sync.the_sync, slot_sync.the_sync, target_sync.the_sync, placed.the_sync, group_var.the_sync, order_key.the_sync, operand.the_sync, term.the_sync, factor.the_sync, bind.the_sync, case.the_sync, type_case.the_sync, catch.the_sync, pair.the_sync, step.the_sync, sum_op.the_sync, compare_op.the_sync, quantifier.the_sync, option.the_field_sync, types_sync.the_field_sync, slot_sync.the_field_sync, target_sync.the_field_sync, placed.the_field_sync, group_var.the_field_sync, order_key.the_field_sync, operand.the_field_sync, term.the_field_sync, factor.the_field_sync, bind.the_field_sync, case.the_field_sync, type_case.the_field_sync, catch.the_field_sync, pair.the_field_sync, step.the_field_sync, sum_op.the_field_sync, compare_op.the_field_sync, quantifier.the_field_sync)

shared_clause_field : IsSync (clause.the_field slot.the_row target.the_row types.the_row).row
shared_clause_field =
    sync-Clause slot.the_row target.the_row types.the_row
    (search fields) (search fields) (search fields) (search fields) (search fields) (λ h s. search parts) (λ h s. search parts) (λ h s. search parts) (λ h s. search parts) (λ h s. search parts) (search fields) (λ h s. search parts) (λ h s. search parts) (λ h s. search parts) (λ h s. search parts) (search fields) (λ h s. search parts) (λ h s. search parts) (search fields) (search fields depth 14) (λ h s. search parts) (search fields) (search fields) (search fields) (search fields) (λ h s. search parts) (λ h s. search parts) (search fields)

pub shared_clause : IsSync (clause.the_row slot.the_row target.the_row types.the_row)
shared_clause = search (sendable, shared_clause_field)
