use Rattle.rumble_run.proofs.OtherKinds.{not_over}
use Rattle.rumble_run.proofs.driving.over_of.Goals as goal

pub returns-in_default : goal.returns-in_default
returns-in_default c = not_over c.args.tree.now c.in_default.not-Call
