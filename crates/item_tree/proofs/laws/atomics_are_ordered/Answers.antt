use Rattle.item_tree.proofs.AtomOrder.{atomics_ordered}
use Rattle.item_tree.proofs.laws.atomics_are_ordered.Goals as goal

pub returns : goal.returns
returns c = atomics_ordered
