-- A compiled tree may be seen by several threads at once. For other crates too.
use denote.Param.Send.{IsSync, sendable, view_sync, recorded_sync, struct_sync}
use denote.Struct.Declared as declared
use Rattle.seq_types.specs.contracts.types.SeqType as types
use Rattle.query_tree.specs.contracts.bound.Slot as slot
use Rattle.query_tree.specs.contracts.bound.Target as target
use Rattle.query_tree.specs.contracts.expr.Expr as expr
use Rattle.query_tree.specs.contracts.module.Variable as variable
use Rattle.query_tree.specs.contracts.module.Function as function
use Rattle.query_tree.specs.contracts.module.Module as module_row
use Rattle.query_tree.specs.contracts.compiled.Compiled as compiled
use Rattle.query_tree.specs.contracts.compiled.Compiled.TheInside as inside
use Rattle.query_tree.proofs.module.Param.TheSendSync as param
use Rattle.query_tree.proofs.clause.Clause.TheLaws.TheKnot.{sync-Expr}
use Rattle.std.proofs.option.Option.TheSendSync as option
use Rattle.std.proofs.vec.Vec.TheSendSync as vec
use Rattle.std.proofs.boxed.Box.TheSendSync as boxed
use Rattle.std.proofs.alloc.Global.TheSendSync as global
use Rattle.item_tree.proofs.text.Str.TheSendSync as str
use Rattle.item_tree.proofs.number.Whole.TheSendSync as whole
use Rattle.item_tree.proofs.number.Units.TheSendSync as units
use Rattle.seq_types.proofs.types.SeqType.TheSendSync as types_sync
use Rattle.query_tree.proofs.bound.Slot.TheSendSync as slot_sync
use Rattle.query_tree.proofs.bound.Target.TheSendSync as target_sync
use Rattle.query_tree.proofs.names.Placed.TheSendSync as placed
use Rattle.query_tree.proofs.clause.GroupVar.TheSendSync as group_var
use Rattle.query_tree.proofs.clause.OrderKey.TheSendSync as order_key
use Rattle.query_tree.proofs.part.Operand.TheSendSync as operand
use Rattle.query_tree.proofs.part.Term.TheSendSync as term
use Rattle.query_tree.proofs.part.Factor.TheSendSync as factor
use Rattle.query_tree.proofs.part.Bind.TheSendSync as bind
use Rattle.query_tree.proofs.part.Case.TheSendSync as case
use Rattle.query_tree.proofs.part.TypeCase.TheSendSync as type_case
use Rattle.query_tree.proofs.part.Catch.TheSendSync as catch
use Rattle.query_tree.proofs.part.Pair.TheSendSync as pair
use Rattle.query_tree.proofs.step.Step.TheSendSync as step
use Rattle.query_tree.proofs.operator.SumOp.TheSendSync as sum_op
use Rattle.query_tree.proofs.operator.CompareOp.TheSendSync as compare_op
use Rattle.query_tree.proofs.operator.Quantifier.TheSendSync as quantifier

ruleset parts = (sendable, option.the_sync, vec.the_sync, boxed.the_sync, global.the_sync, str.the_sync, whole.the_sync, units.the_sync, types_sync.the_sync, slot_sync.the_sync, target_sync.the_sync, placed.the_sync, group_var.the_sync, order_key.the_sync, operand.the_sync, term.the_sync, factor.the_sync, bind.the_sync, case.the_sync, type_case.the_sync, catch.the_sync, pair.the_sync, step.the_sync, sum_op.the_sync, compare_op.the_sync, quantifier.the_sync)

ruleset fields = (sendable, option.the_sync, vec.the_sync, boxed.the_sync, global.the_sync, str.the_sync, whole.the_sync, units.the_sync, types_sync.the_sync, slot_sync.the_sync, target_sync.the_sync, placed.the_sync, group_var.the_sync, order_key.the_sync, operand.the_sync, term.the_sync, factor.the_sync, bind.the_sync, case.the_sync, type_case.the_sync, catch.the_sync, pair.the_sync, step.the_sync, sum_op.the_sync, compare_op.the_sync, quantifier.the_sync, option.the_field_sync, types_sync.the_field_sync, slot_sync.the_field_sync, target_sync.the_field_sync, placed.the_field_sync, group_var.the_field_sync, order_key.the_field_sync, operand.the_field_sync, term.the_field_sync, factor.the_field_sync, bind.the_field_sync, case.the_field_sync, type_case.the_field_sync, catch.the_field_sync, pair.the_field_sync, step.the_field_sync, sum_op.the_field_sync, compare_op.the_field_sync, quantifier.the_field_sync)

pub shared_tree : IsSync (expr.the_field slot.the_row target.the_row types.the_row).row
shared_tree =
    sync-Expr slot.the_row target.the_row types.the_row
    (search fields) (search fields) (search fields) (search fields) (search fields) (λ h s. search parts) (λ h s. search parts) (λ h s. search parts) (λ h s. search parts) (λ h s. search parts) (search fields) (λ h s. search parts) (λ h s. search parts) (λ h s. search parts) (λ h s. search parts) (search fields) (λ h s. search parts) (λ h s. search parts) (search fields) (search fields depth 14) (λ h s. search parts) (search fields) (search fields) (search fields) (search fields) (λ h s. search parts) (λ h s. search parts) (search fields)

pub shared_expr : IsSync (expr.the_row slot.the_row target.the_row types.the_row)
shared_expr = search (sendable, shared_tree)

pub shared_variable : IsSync (variable.the_row slot.the_row target.the_row types.the_row)
shared_variable = search (fields, shared_tree) depth 14

pub shared_function : IsSync (function.the_row slot.the_row target.the_row types.the_row)
shared_function = search (fields, param.the_sync, shared_tree) depth 14

pub shared_module : IsSync (module_row.the_row slot.the_row target.the_row types.the_row)
shared_module = search (fields, shared_tree, shared_variable, shared_function) depth 14

shared_fields : IsSync (module_row.the_field slot.the_row target.the_row types.the_row).row
shared_fields = search (fields, shared_tree, shared_variable, shared_function) depth 14

shared_inside : IsSync inside.the_row
shared_inside = recorded_sync (inside.the_field).row _ _ (inside.the_type).to_one (struct_sync (declared.shape inside.the_type) (shared_fields, (search sendable, tt)))

pub shared_compiled : IsSync compiled.the_row
shared_compiled = view_sync inside.the_row _ _ _ _ shared_inside
