use Rattle.item_tree.proofs.DeepEquality.{items_equivalent}
use Rattle.item_tree.proofs.laws.items_are_equivalent.Goals as goal

pub returns : goal.returns
returns c = items_equivalent
