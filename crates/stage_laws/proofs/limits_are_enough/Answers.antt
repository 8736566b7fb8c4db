use Rattle.stage_laws.proofs.Limits as law
use Rattle.stage_laws.proofs.limits_are_enough.Goals as goal

pub returns : goal.returns
returns g c = law.limits_are_enough _ _ _ _
