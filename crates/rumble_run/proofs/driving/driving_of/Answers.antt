use Rattle.rumble_run.proofs.OtherKinds.{not_driving}
use Rattle.rumble_run.proofs.driving.driving_of.Goals as goal

pub returns-in_default : goal.returns-in_default
returns-in_default c = not_driving c.args.tree.now c.in_default.not-Flwor c.in_default.not-Call
