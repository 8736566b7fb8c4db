use Rattle.mode_planner.proofs.Placing.{stand_once}
use Rattle.mode_planner.proofs.laws.expressions_stand_once.Goals as goal

pub returns : goal.returns
returns c = stand_once
