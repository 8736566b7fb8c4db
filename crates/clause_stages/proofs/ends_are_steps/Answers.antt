use Rattle.clause_stages.proofs.EndSteps as law
use Rattle.clause_stages.proofs.ends_are_steps.Goals as goal

pub returns : goal.returns
returns g c = law.ends_are_steps _
