use Rattle.query_tree.proofs.Calling.{are_bound}
use Rattle.query_tree.proofs.laws.slots_are_bound.Goals as goal

pub returns : goal.returns
returns c = are_bound
