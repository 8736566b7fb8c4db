use Rattle.order_runs.proofs.RowClashes.{clashes_earliest}
use Rattle.order_runs.proofs.laws.clashes_are_earliest.Goals as goal

pub returns : goal.returns
returns c = clashes_earliest
