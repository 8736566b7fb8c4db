use Rattle.static_rules.proofs.TextOrder.{text_order}
use Rattle.static_rules.proofs.laws.numbers_in_text_order.Goals as goal

pub returns : goal.returns
returns c = text_order
