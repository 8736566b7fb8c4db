use Rattle.stage_laws.proofs.Tuples.{tuples_tell}
use Rattle.stage_laws.proofs.tuples_tell.Goals as goal

pub returns : goal.returns
returns g c = tuples_tell _ _ _ _ _
