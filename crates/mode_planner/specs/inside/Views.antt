-- What the parts of a plan stand for.
use Rattle.std.specs.Prelude.{option_map}
use Rattle.query_tree.specs.BoundViews.{bound_tree}
use Rattle.mode_planner.specs.declared.driven.Driven.{Driven}
use Rattle.mode_planner.specs.declared.plan.Driver.{Driver}
use Rattle.mode_planner.specs.declared.plan.Leaf.{Leaf}
use Rattle.mode_planner.specs.Drivers.{DriverPlan}
use Rattle.mode_planner.specs.Plans as plans
use Rattle.mode_planner.specs.Plans.{LeafPlan}

abbrev pub driver_of : Driver → DriverPlan
driver_of d = record {
  place = d.place;
  names = d.names.now;
  lets = d.lets;
  position = d.position;
}

abbrev pub driven_of : Driven → plans.Driven
driven_of d = record {
  lines = d.lines.items;
  driver = driver_of d.driver;
  stages = d.stages.items;
}

abbrev pub leaf_of : Leaf → LeafPlan
leaf_of l = record {
  tree = bound_tree l.tree.now;
  label = l.label;
  lines = l.lines.items;
  driver = option_map driver_of l.driver;
  stages = l.stages.items;
}
