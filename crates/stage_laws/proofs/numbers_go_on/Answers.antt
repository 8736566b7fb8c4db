use Rattle.stage_laws.proofs.Ends as law
use Rattle.stage_laws.proofs.numbers_go_on.Goals as goal

pub returns : goal.returns
returns g c = law.numbers_go_on _ _
