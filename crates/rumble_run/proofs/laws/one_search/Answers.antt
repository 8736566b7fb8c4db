use Rattle.rumble_run.proofs.Answered.{one_search}
use Rattle.rumble_run.proofs.laws.one_search.Goals as goal

pub returns : goal.returns
returns c = one_search
