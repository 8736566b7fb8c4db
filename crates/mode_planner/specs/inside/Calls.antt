-- The names that one expression adds to those beside the drivers.
use Rattle.std.specs.Prelude.{ℕ, List, [], Option, None, Some, if◌then◌else◌}
use Rattle.query_tree.specs.Bound.{BoundTree}
use Rattle.mode_planner.specs.Beside.{drives}
use Rattle.mode_planner.specs.Drivers.{DriverPlan, call_driver}

-- those of a call, if it is none of these drivers
abbrev pub call_names : List DriverPlan → Option DriverPlan → List (List ℕ)
call_names ds None = []
call_names ds (Some c) = if drives ds c then [] else c.names

abbrev pub tree_names : List DriverPlan → BoundTree → List (List ℕ)
tree_names ds t = call_names ds (call_driver t)
