-- A call of more than one argument.
use Rattle.std.proofs.Common.{◌≡◌, false, None, List, [], ◌∷◌, length, refl}
use Rattle.std.specs.Prelude.{◌==◌}
use Rattle.item_tree.specs.declared.functions.FnId.{FnId}
use Rattle.seq_types.specs.declared.types.SeqType.{SeqType}
use Rattle.query_tree.specs.declared.bound.Slot.{Slot}
use Rattle.query_tree.specs.declared.bound.Target.{Target}
use Rattle.query_tree.specs.declared.expr.Expr.{Expr}
use Rattle.query_tree.specs.BoundViews.{bound_tree_list}
use Rattle.mode_planner.specs.Plans.{argument}

abbrev BoundExpr : Type 0
BoundExpr = Expr Slot Target SeqType

pub more_arguments : (id : FnId) (e : BoundExpr) (es : List BoundExpr) → false ≡ (length es == 0) → argument id (bound_tree_list (e ∷ es)) ≡ None
more_arguments id e [] h = absurd (cc)
more_arguments id e (x ∷ es) h = refl
