use Rattle.stage_laws.proofs.Ends as law
use Rattle.stage_laws.proofs.stages_fall_into_pieces.Goals as goal

pub returns : goal.returns
returns g c = law.stages_fall_into_pieces _ _ _ _ _ _
