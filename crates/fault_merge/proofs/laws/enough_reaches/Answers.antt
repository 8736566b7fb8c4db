use Rattle.fault_merge.proofs.Reaching.{enough_reaches_lem}
use Rattle.fault_merge.proofs.laws.enough_reaches.Goals as goal

pub returns : goal.returns
returns c = enough_reaches_lem
