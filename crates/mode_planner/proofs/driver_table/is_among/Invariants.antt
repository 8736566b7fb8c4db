use Rattle.std.proofs.Common.{◌≡◌, map, drop}
use Rattle.mode_planner.specs.Beside.{drives}
use Rattle.mode_planner.specs.inside.Views.{driver_of}
use Rattle.mode_planner.proofs.driver_table.is_among.Given as goal

abbrev pub invariant-loop-driver : goal.invariant-loop-driver
invariant-loop-driver l = drives (map driver_of (drop l.driver-index l.drivers)) (driver_of l.call) ≡ drives (map driver_of l.drivers) (driver_of l.call)
