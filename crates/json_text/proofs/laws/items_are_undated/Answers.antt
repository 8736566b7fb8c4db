use Rattle.json_text.proofs.UndatedItems.{items_undated}
use Rattle.json_text.proofs.laws.items_are_undated.Goals as goal

pub returns : goal.returns
returns c = items_undated
