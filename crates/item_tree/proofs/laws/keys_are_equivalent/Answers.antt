use Rattle.item_tree.proofs.AtomOrder.{keys_equivalent}
use Rattle.item_tree.proofs.laws.keys_are_equivalent.Goals as goal

pub returns : goal.returns
returns c = keys_equivalent
