-- The plan of a query: of each leaf of its body what it is, how its parts are evaluated, and what
-- runs over pieces.
use Rattle.std.specs.Prelude.{ℕ, Bool, if◌then◌else◌, Option, None, Some, option_map, List, [], ◌∷◌, ◌++◌, map}
use Rattle.item_tree.specs.declared.functions.FnId.{FnId}
use Rattle.seq_types.specs.declared.types.SeqType.{SeqType}
use Rattle.query_tree.specs.declared.bound.Slot.{Slot}
use Rattle.query_tree.specs.declared.bound.Target.{Target}
use Rattle.query_tree.specs.declared.bound.Target.TheVariants.{Built, Own, Lines}
use Rattle.query_tree.specs.Plain as p
use Rattle.query_tree.specs.Plain.{Form, PlainClauses, Trees}
use Rattle.query_tree.specs.Bound.{BoundTree}
use Rattle.mode_planner.specs.declared.plan.End.{End}
use Rattle.mode_planner.specs.declared.plan.End.TheVariants.{Items, Part}
use Rattle.mode_planner.specs.declared.plan.Label.{Label}
use Rattle.mode_planner.specs.declared.plan.Label.TheVariants as label
use Rattle.mode_planner.specs.declared.plan.Line.{Line}
use Rattle.mode_planner.specs.declared.plan.Mode.TheVariants.{Local, Partitioned, Gathered}
use Rattle.mode_planner.specs.declared.plan.Stage.{Stage}
use Rattle.mode_planner.specs.Spine.{leaves}
use Rattle.mode_planner.specs.Drivers.{DriverPlan, target_driver, clauses_driver, folds}
use Rattle.mode_planner.specs.Clauses.{line, stage, lines_from, stages_from}

-- ---- an expression that a driver drives: its lines, its driver and its stages

pub record Driven : Type 0 where
  pub lines : List Line
  pub driver : DriverPlan
  pub stages : List Stage

-- Each is planned so that its last stage has this end.

abbrev pub driven_call : End → DriverPlan → Driven
driven_call end d = record {
  lines = line d.place label.JsonLines Partitioned ∷ [];
  driver = d;
  stages = stage 0 0 end ∷ [];
}

abbrev pub driven_flwor : End → PlainClauses Slot Target SeqType → ℕ → DriverPlan → Driven
driven_flwor end clauses place d = record {
  lines = lines_from d.lets 1 clauses ++ line place label.Return Partitioned ∷ [];
  driver = d;
  stages = stages_from d.lets 1 end clauses;
}

abbrev pub driven_form : End → ℕ → Form Slot Target SeqType → Option Driven
driven_form end place (p.call_form function arguments) =
    option_map (driven_call end) (target_driver place function)
driven_form end place (p.flwor_form clauses at result) =
    option_map (driven_flwor end clauses at) (clauses_driver 0 clauses)
driven_form end place _ = None

abbrev pub driven : End → BoundTree → Option Driven
driven end (p.tree_node place kind) = driven_form end place kind

-- ---- leaves

pub record LeafPlan : Type 0 where
  pub tree : BoundTree
  pub label : Label
  pub lines : List Line
  pub driver : Option DriverPlan
  pub stages : List Stage

-- without a driver it is evaluated as a whole
abbrev pub whole : BoundTree → ℕ → Label → LeafPlan
whole t place l = record {
  tree = t;
  label = l;
  lines = line place l Local ∷ [];
  driver = None;
  stages = [];
}

-- with these lines before those of what is driven
abbrev pub over : BoundTree → Label → List Line → Driven → LeafPlan
over t l before d = record {
  tree = t;
  label = l;
  lines = before ++ d.lines;
  driver = Some d.driver;
  stages = d.stages;
}

abbrev pub own_plan : BoundTree → ℕ → Label → Option Driven → LeafPlan
own_plan t place l None = whole t place l
own_plan t place l (Some d) = over t l [] d

-- what drives a call of a function: its one argument, if its value can be put together from what
-- the pieces give
abbrev pub argument : FnId → Trees Slot Target SeqType → Option Driven
argument id (p.more_trees t p.no_trees) = if folds id then driven (Part id) t else None
argument id _ = None

abbrev pub call_plan : BoundTree → ℕ → FnId → Option Driven → LeafPlan
call_plan t place id None = whole t place label.Expression
call_plan t place id (Some d) = over t (label.Call id) (line place (label.Call id) Gathered ∷ []) d

abbrev pub target_plan : BoundTree → ℕ → Target → Trees Slot Target SeqType → LeafPlan
target_plan t place (Built id) arguments = call_plan t place id (argument id arguments)
target_plan t place (Own number) arguments = whole t place label.Expression
target_plan t place (Lines names) arguments = own_plan t place label.JsonLines (driven Items t)

abbrev pub form_plan : BoundTree → ℕ → Form Slot Target SeqType → LeafPlan
form_plan t place (p.call_form function arguments) = target_plan t place function arguments
form_plan t place (p.flwor_form _ at result) = own_plan t place label.Flwor (driven Items t)
form_plan t place _ = whole t place label.Expression

abbrev pub driven_plan : BoundTree → LeafPlan
driven_plan (p.tree_node place kind) = form_plan (p.tree_node place kind) place kind

-- ---- without pieces all is local

abbrev pub local_line : Line → Line
local_line l = line l.place l.label Local

abbrev pub all_local : LeafPlan → LeafPlan
all_local l = record l { lines = map local_line l.lines; driver = None; stages = [] }

-- ---- the plan of a body, where all is to be local or not

abbrev pub leaf_plan : Bool → BoundTree → LeafPlan
leaf_plan local t = if local then all_local (driven_plan t) else driven_plan t

abbrev pub plan : Bool → BoundTree → List LeafPlan
plan local body = map (leaf_plan local) (leaves body)
