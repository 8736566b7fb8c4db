use Rattle.stage_laws.proofs.Ends as law
use Rattle.stage_laws.proofs.outcomes_tell.Goals as goal

pub returns : goal.returns
returns g c = law.outcomes_tell _ _ _ _
