-- The drivers of each place, as a map from places has them.
use Rattle.std.specs.Prelude.{ℕ, ◌==◌, List, [], Vec, map, filter}
use Rattle.std.specs.BTreeMap.{BTreeMap, get}
use Rattle.std.specs.Option.{option_map_or}
use Rattle.std.specs.Ordering.{nat_cmp}
use Rattle.std.specs.declared.alloc.Global.{Global}
use Rattle.mode_planner.specs.declared.plan.Driver.{Driver}
use Rattle.mode_planner.specs.inside.Views.{driver_of}
use Rattle.mode_planner.specs.Drivers.{DriverPlan}

abbrev pub drivers_at : BTreeMap ℕ (Vec Driver Global) → ℕ → List DriverPlan
drivers_at m place = option_map_or (λ v. map driver_of v.items) (get nat_cmp m place) []

-- those of a list that stand at this place
abbrev pub at_place : ℕ → List DriverPlan → List DriverPlan
at_place place ds = filter (λ d. place == d.place) ds
