use Rattle.rumble_run.proofs.Answered.{one_answer}
use Rattle.rumble_run.proofs.laws.one_answer.Goals as goal

pub returns : goal.returns
returns c = one_answer
