use Rattle.item_tree.proofs.DeepEquality.{sequences_equivalent}
use Rattle.item_tree.proofs.laws.sequences_are_equivalent.Goals as goal

pub returns : goal.returns
returns c = sequences_equivalent
