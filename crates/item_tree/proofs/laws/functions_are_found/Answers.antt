use Rattle.item_tree.proofs.FunctionNames.{functions_found}
use Rattle.item_tree.proofs.laws.functions_are_found.Goals as goal

pub returns : goal.returns
returns c = functions_found
