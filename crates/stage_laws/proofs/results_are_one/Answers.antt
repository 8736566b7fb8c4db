use Rattle.stage_laws.proofs.Ends as law
use Rattle.stage_laws.proofs.results_are_one.Goals as goal

pub returns : goal.returns
returns g c = law.results_are_one _ _ _ _ _
