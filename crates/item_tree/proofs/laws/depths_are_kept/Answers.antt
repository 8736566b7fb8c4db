use Rattle.item_tree.proofs.ArrayLists.{depths_kept}
use Rattle.item_tree.proofs.laws.depths_are_kept.Goals as goal

pub returns : goal.returns
returns c = depths_kept
