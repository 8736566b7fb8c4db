use Rattle.rumble_run.proofs.Fronts.{one_front}
use Rattle.rumble_run.proofs.laws.one_front.Goals as goal

pub returns : goal.returns
returns c = one_front
