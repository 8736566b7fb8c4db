use Rattle.mode_planner.proofs.Leading.{stand_first}
use Rattle.mode_planner.proofs.laws.drivers_stand_first.Goals as goal

pub returns : goal.returns
returns c = stand_first
