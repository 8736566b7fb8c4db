use Rattle.rumble_run.proofs.LoneInputs.{call_of_one}
use Rattle.rumble_run.proofs.lone_input.name_read.Goals as goal

pub returns-in-Call : goal.returns-in-Call
returns-in-Call c = call_of_one (λ n. n.now) _ _ _ c.only_name.result c.in-Call.is c.only_name.ensures
