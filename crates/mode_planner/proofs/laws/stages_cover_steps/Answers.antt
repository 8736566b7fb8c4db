use Rattle.mode_planner.proofs.Covering.{stages_cover}
use Rattle.mode_planner.proofs.laws.stages_cover_steps.Goals as goal

pub returns : goal.returns
returns c = stages_cover
