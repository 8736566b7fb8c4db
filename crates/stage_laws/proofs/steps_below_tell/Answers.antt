use Rattle.stage_laws.proofs.Ends as law
use Rattle.stage_laws.proofs.steps_below_tell.Goals as goal

pub returns : goal.returns
returns g c = law.steps_below_tell _ _ _ _ _
