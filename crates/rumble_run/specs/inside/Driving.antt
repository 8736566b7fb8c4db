-- What a driver drives: a FLWOR or a call of `json-lines`, or either as the one argument of a call.
use Rattle.std.specs.Prelude.{ℕ, Option, None, Some, option_map, option_and_then, List}
use Rattle.std.specs.Borrow.{Bor}
use Rattle.item_tree.specs.declared.functions.FnId.{FnId}
use Rattle.seq_types.specs.declared.types.SeqType.{SeqType}
use Rattle.query_tree.specs.Bound.{BoundTree}
use Rattle.query_tree.specs.BoundViews.{bound_tree, bound_clauses}
use Rattle.query_tree.specs.declared.bound.Slot.{Slot}
use Rattle.query_tree.specs.declared.bound.Target.{Target}
use Rattle.query_tree.specs.declared.bound.Target.TheVariants.{Built, Own, Lines}
use Rattle.query_tree.specs.declared.expr.Expr.{Expr}
use Rattle.query_tree.specs.Plain as p
use Rattle.query_tree.specs.Plain.{PlainClauses, Trees, Form}
use Rattle.mode_planner.specs.Drivers.{DriverPlan, target_driver, clauses_driver}
use Rattle.rumble_run.specs.declared.driving.Driving.{Driving}
use Rattle.rumble_run.specs.declared.driving.Driving.TheVariants as driving

pub data PlainDriving : Type 0 where
  of_flwor : PlainClauses Slot Target SeqType → BoundTree → PlainDriving
  of_lines : List (List ℕ) → PlainDriving

abbrev pub seen : Driving → PlainDriving
seen (driving.Flwor clauses result) = of_flwor (bound_clauses clauses.now) (bound_tree result.now)
seen (driving.Lines names) = of_lines names.now

abbrev pub lines_of : Target → Option (List (List ℕ))
lines_of (Built id) = None
lines_of (Own n) = None
lines_of (Lines names) = Some names

abbrev pub form_driving : Form Slot Target SeqType → Option PlainDriving
form_driving (p.flwor_form clauses at result) = Some (of_flwor clauses result)
form_driving (p.call_form function arguments) = option_map of_lines (lines_of function)
form_driving _ = None

-- a FLWOR, or a call of `json-lines`
abbrev pub driving_of : BoundTree → Option PlainDriving
driving_of (p.tree_node place form) = form_driving form

abbrev pub driver_of_driving : ℕ → PlainDriving → Option DriverPlan
driver_of_driving place (of_flwor clauses result) = clauses_driver 0 clauses
driver_of_driving place (of_lines names) = target_driver place (Lines names)

-- its driver
abbrev pub driver_in : BoundTree → Option DriverPlan
driver_in (p.tree_node place form) =
    option_and_then (driver_of_driving place) (form_driving form)

-- ---- a call with one argument

abbrev pub built_of : Target → Option FnId
built_of (Built id) = Some id
built_of (Own n) = None
built_of (Lines names) = None

abbrev pub only_of : Trees Slot Target SeqType → Option BoundTree
only_of (p.more_trees t p.no_trees) = Some t
only_of _ = None

abbrev pub with_only : Trees Slot Target SeqType → FnId → Option (FnId × BoundTree)
with_only arguments id = option_map (λ t. (id, t)) (only_of arguments)

abbrev pub form_over : Form Slot Target SeqType → Option (FnId × BoundTree)
form_over (p.call_form function arguments) =
    option_and_then (with_only arguments) (built_of function)
form_over _ = None

abbrev pub over_of : BoundTree → Option (FnId × BoundTree)
over_of (p.tree_node place form) = form_over form

abbrev pub seen_over : FnId × Bor (Expr Slot Target SeqType) → FnId × BoundTree
seen_over r = (r.0, bound_tree r.1.now)
