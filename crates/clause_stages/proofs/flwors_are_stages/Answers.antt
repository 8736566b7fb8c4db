use Rattle.clause_stages.proofs.Flwors as law
use Rattle.clause_stages.proofs.flwors_are_stages.Goals as goal

pub returns : goal.returns
returns g c = law.flwors_are_stages _
