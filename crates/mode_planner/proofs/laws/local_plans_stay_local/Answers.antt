use Rattle.mode_planner.proofs.Locals.{stay_local}
use Rattle.mode_planner.proofs.laws.local_plans_stay_local.Goals as goal

pub returns : goal.returns
returns c = stay_local
