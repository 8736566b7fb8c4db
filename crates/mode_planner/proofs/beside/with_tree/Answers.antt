use Rattle.std.proofs.Common.{sym, ap, map, ◌∙◌}
use Rattle.std.specs.Prelude.{option_map}
use Rattle.query_tree.specs.BoundViews.{bound_tree}
use Rattle.mode_planner.specs.inside.Views.{driver_of}
use Rattle.mode_planner.proofs.Besides.{with-none, with-driver}
use Rattle.mode_planner.proofs.beside.with_tree.Goals as goal

pub returns-in_default : goal.returns-in_default
returns-in_default c =
    with-none (map driver_of c.args.drivers.now.all.items) c.args.names.found.items (bound_tree c.args.tree.now)
    (sym (ap (option_map driver_of) c.in_default.is) ∙ c.call_driver.ensures)

pub returns-then-drives : goal.returns-then-drives
returns-then-drives c =
    with-driver (map driver_of c.args.drivers.now.all.items) c.args.names.found.items (bound_tree c.args.tree.now) (driver_of c.in-Some.call)
    (sym (ap (option_map driver_of) c.in-Some.is) ∙ c.call_driver.ensures) (sym c.drives.ensures ∙ c.if-drives.true)
