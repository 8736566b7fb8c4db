-- What is printed of a value that was put together part by part.
use Rattle.std.proofs.Common.{◌≡◌, ◌+◌, ◌-◌, ◌≤◌, ℕ, suc, List, [], ◌∷◌, Option, None, Some, Result, Ok, sym, ap, ◌∙◌, subst, arith}
use Rattle.std.specs.Prelude.{IfSome}
use Rattle.item_tree.specs.Datum.{Datum}
use Rattle.item_tree.specs.declared.code.Code.{Code}
use Rattle.item_tree.specs.declared.fault.OpFault.{OpFault}
use Rattle.item_tree.specs.declared.fault.OpFault.TheVariants as op
use Rattle.item_tree.specs.declared.functions.FnId.{FnId}
use Rattle.outside.specs.Opens.{InputCounts}
use Rattle.outside.specs.World.{World}
use Rattle.fn_table.specs.Table.{function_value}
use Rattle.seq_types.specs.declared.types.SeqType.{SeqType}
use Rattle.query_tree.specs.Bound.{BoundTree}
use Rattle.query_tree.specs.BoundViews.{bound_tree}
use Rattle.query_tree.specs.declared.bound.Slot.{Slot}
use Rattle.query_tree.specs.declared.bound.Target.{Target}
use Rattle.query_tree.specs.declared.expr.Expr.{Expr}
use Rattle.query_tree.proofs.Layers.{tree_of-out}
use Rattle.mode_planner.specs.Drivers.{DriverPlan}
use Rattle.query_meaning.specs.Environment.{place_of}
use Rattle.query_meaning.specs.Library.{Library, lines_value}
use Rattle.query_meaning.specs.Meaning.{eval}
use Rattle.query_meaning.specs.Outcome.{Outcome, at_place}
use Rattle.query_meaning.specs.inside.Gives.{operation_fault}
use Rattle.value_rules.specs.Operands.{FailsWith}
use Rattle.piece_seats.specs.declared.text.Text.{Text}
use Rattle.rumble_run.specs.inside.Driving.{of_lines, driving_of, driver_in, over_of}
use Rattle.piece_run.specs.Leaf.{ReadsNames, LeafCounts}
use Rattle.piece_run.specs.Kept.{LeafFails, KeptIs, of_evaluation}
use Rattle.rumble_run.specs.inside.Walked.{Prints, Setting, Drives, Walked, leaf_driver, value_over}
use Rattle.piece_run.specs.declared.leaf_fault.LeafFault.{LeafFault}
use Rattle.rumble_run.proofs.DriverSteps.{driver_over, lines_driven, walked_own, walked_over}

abbrev BoundExpr : Type 0
BoundExpr = Expr Slot Target SeqType

abbrev ValueOf : Type 0
ValueOf = List Datum → Result (List Datum) Code

pub over_made : (place : ℕ) (f : ValueOf) (meant : Outcome) (ds items : List Datum) → meant ≡ Ok ds → f ds ≡ Ok items → value_over place f meant ≡ Ok items
over_made place f meant ds items h g = ap (value_over place f) h ∙ ap (at_place place) g

-- and a function may fail of its own
pub function_fails : (place : ℕ) (f : ValueOf) (e : OpFault) (meant : Outcome) (ds : List Datum) → meant ≡ Ok ds → FailsWith (f ds) e → LeafFails (of_evaluation (operation_fault e place)) (value_over place f meant)
function_fails place f (op.Raised code) meant ds h g = ap (value_over place f) h ∙ ap (at_place place) g
function_fails place f op.NoMemory meant ds h g = tt

-- ---- a leaf with a driver

pub own_printed : (s : Setting) (world : Option World) (depth : ℕ) (t : BoundTree) (d : DriverPlan) (q : Result Text LeafFault) (before after : InputCounts) → leaf_driver t ≡ Some d
    → IfSome world (λ w. Drives Prints s w t d (λ full. eval full depth t s.env) q before after) → IfSome world (λ w. Walked Prints s w depth (t ∷ []) q before after)
own_printed s None depth t d q before after e h = tt
own_printed s (Some w) depth t d q before after e h = walked_own Prints s w depth t d q before after e h

over_printed : (s : Setting) (world : Option World) (depth n : ℕ) (t u : BoundTree) (id : FnId) (d : DriverPlan) (q : Result Text LeafFault) (before after : InputCounts) → n + 5 ≤ depth → Some (id, u) ≡ over_of t → leaf_driver t ≡ Some d
    → IfSome world (λ w. Drives Prints s w u d (λ full. value_over (place_of t) (λ vs. function_value id (vs ∷ [])) (eval full (depth - 1) u s.env)) q before after) → IfSome world (λ w. Walked Prints s w depth (t ∷ []) q before after)
over_printed s None depth n t u id d q before after room o e h = tt
over_printed s (Some w) depth n t u id d q before after room o e h =
    let deeper : suc (depth - 1) ≡ depth = omega (arith, room) in
    subst (λ k. Walked Prints s w k (t ∷ []) q before after) deeper (walked_over Prints s w (depth - 1) t id u d q before after e (driver_over t id u d o e) h)

-- ---- expressions of the code

place_is : (e : BoundExpr) → place_of (bound_tree e) ≡ e.place
place_is e = ap place_of (tree_of-out Slot Target SeqType e)

pub over_there : (s : Setting) (world : Option World) (depth : ℕ) (e : BoundExpr) (u : BoundTree) (id : FnId) (d : DriverPlan) (q : Result Text LeafFault) (before after : InputCounts) → 5 ≤ depth → Some (id, u) ≡ over_of (bound_tree e) → leaf_driver (bound_tree e) ≡ Some d
    → IfSome world (λ w. Drives Prints s w u d (λ full. value_over e.place (λ vs. function_value id (vs ∷ [])) (eval full (depth - 1) u s.env)) q before after) → IfSome world (λ w. Walked Prints s w depth (bound_tree e ∷ []) q before after)
over_there s world depth e u id d q before after room o h drives =
    over_printed s world depth 0 (bound_tree e) u id d q before after room o h
    (subst (λ n. IfSome world (λ w. Drives Prints s w u d (λ full. value_over n (λ vs. function_value id (vs ∷ [])) (eval full (depth - 1) u s.env)) q before after)) (sym (place_is e)) drives)

pub lines_there : {K : Type 0} (stands : K → List Datum → Type 0) (s : Setting) (world : Option World) (depth : ℕ) (e : BoundExpr) (names : List (List ℕ)) (d : DriverPlan) (r : Result K LeafFault) (before after : InputCounts)
    → 3 ≤ depth → Some (of_lines names) ≡ driving_of (bound_tree e) → driver_in (bound_tree e) ≡ Some d
    → IfSome world (λ w. (library : Library) → ReadsNames w library names → KeptIs stands r (lines_value library names e.place))
    → LeafCounts world names s.workers s.size r before after → IfSome world (λ w. Drives stands s w (bound_tree e) d (λ full. eval full depth (bound_tree e) s.env) r before after)
lines_there stands s world depth e names d r before after room is h v c =
    let deeper : suc (depth - 1) ≡ depth = omega (arith, room) in
    subst (λ n. IfSome world (λ w. Drives stands s w (bound_tree e) d (λ full. eval full n (bound_tree e) s.env) r before after)) deeper
    (lines_driven stands s world (depth - 1) (bound_tree e) names d r before after is h
    (subst (λ n. IfSome world (λ w. (library : Library) → ReadsNames w library names → KeptIs stands r (lines_value library names n))) (sym (place_is e)) v) c)
