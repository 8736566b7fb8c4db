use Rattle.item_tree.proofs.KeyOrder.{agree}
use Rattle.item_tree.proofs.laws.keys_agree.Goals as goal

pub returns : goal.returns
returns c = agree
