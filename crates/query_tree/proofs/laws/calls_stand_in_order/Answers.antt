use Rattle.query_tree.proofs.Calling.{in_order}
use Rattle.query_tree.proofs.laws.calls_stand_in_order.Goals as goal

pub returns : goal.returns
returns c = in_order
