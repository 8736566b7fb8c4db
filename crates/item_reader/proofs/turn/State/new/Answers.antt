use Rattle.item_reader.proofs.Turning.{no_kinds}
use Rattle.item_reader.proofs.turn.State.new.Goals as goal

pub returns-clause-kinds : goal.returns-clause-kinds
returns-clause-kinds c = no_kinds c.new.result.items c.new.ensures.items
