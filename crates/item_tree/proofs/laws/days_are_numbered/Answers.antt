use Rattle.item_tree.proofs.DayNumbers.{days_numbered}
use Rattle.item_tree.proofs.laws.days_are_numbered.Goals as goal

pub returns : goal.returns
returns c = days_numbered
