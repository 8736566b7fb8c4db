use Rattle.clause_stages.proofs.Driving as law
use Rattle.clause_stages.proofs.drivers_are_stages.Goals as goal

pub returns : goal.returns
returns g c = law.drivers_are_stages _ _ _ _
