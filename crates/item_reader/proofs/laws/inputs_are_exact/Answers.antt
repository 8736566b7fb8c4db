use Rattle.item_reader.proofs.Inputs.{inputs_exact}
use Rattle.item_reader.proofs.laws.inputs_are_exact.Goals as goal

pub returns : goal.returns
returns c = inputs_exact
