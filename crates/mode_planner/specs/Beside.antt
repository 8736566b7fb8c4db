-- The inputs that are read as a whole, beside the drivers: those of the calls of `json-lines` that
-- are no driver. And whether each driver is one call of the query.
use Rattle.std.specs.Prelude.{ℕ, Bool, ◌&&◌, ◌==◌, not, if◌then◌else◌, Option, None, Some, List, filter, length}
use Rattle.std.specs.Cmp.Lexicographic.{pointwise}
use Rattle.std.specs.List.{filter_map, flat_map, list_any, sum_by}
use Rattle.std.specs.Str.{bytes_eq}
use Rattle.query_tree.specs.Bound.{BoundTree}
use Rattle.query_tree.specs.Calls.{module_trees}
use Rattle.query_tree.specs.Compiled.{BoundTrees}
use Rattle.query_tree.specs.Inputs.{first_appearances}
use Rattle.query_tree.specs.Subtrees.{subtrees}
use Rattle.mode_planner.specs.Drivers.{DriverPlan, call_driver}
use Rattle.mode_planner.specs.Plans.{LeafPlan}

-- the expressions of a query: those of its declarations and of its body in text order, with all that
-- stand inside them
abbrev pub expressions : BoundTrees → List BoundTree
expressions m = flat_map subtrees (module_trees m)

-- the calls of `json-lines` of a query in text order, each as the driver that it would be alone
abbrev pub input_calls : BoundTrees → List DriverPlan
input_calls m = filter_map call_driver (expressions m)

abbrev pub drivers : List LeafPlan → List DriverPlan
drivers leaves = filter_map (λ l. l.driver) leaves

-- a driver is the call that stands at its place and reads its inputs
abbrev pub is_driver : DriverPlan → DriverPlan → Bool
is_driver call d = call.place == d.place && pointwise bytes_eq call.names d.names

abbrev pub drives : List DriverPlan → DriverPlan → Bool
drives ds call = list_any (is_driver call) ds

-- the calls that are none of these drivers
abbrev pub calls_beside : List DriverPlan → List DriverPlan → List DriverPlan
calls_beside ds calls = filter (λ c. not (drives ds c)) calls

-- the different names of their inputs, in order of first appearance
abbrev pub names_beside : List LeafPlan → BoundTrees → List (List ℕ)
names_beside leaves m =
    first_appearances (flat_map (λ c. c.names) (calls_beside (drivers leaves) (input_calls m)))

-- ---- plans whose drivers stand once

-- one where a call is one of these drivers
abbrev pub one_if_driven : List DriverPlan → Option DriverPlan → ℕ
one_if_driven ds None = 0
one_if_driven ds (Some call) = if drives ds call then 1 else 0

-- how many of these expressions are calls that drivers are
abbrev pub driven_calls : List DriverPlan → List BoundTree → ℕ
driven_calls ds ts = sum_by (λ t. one_if_driven ds (call_driver t)) ts

-- whether there are as many in a query as there are drivers
abbrev pub stand_once : List DriverPlan → BoundTrees → Bool
stand_once ds m = driven_calls ds (expressions m) == length ds
