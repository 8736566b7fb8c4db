use Rattle.item_reader.proofs.Turning.{no_kinds}
use Rattle.item_reader.proofs.turn.State.restart.Goals as goal

pub returns-clause-kinds : goal.returns-clause-kinds
returns-clause-kinds c = no_kinds c.clear.new.self.items c.clear.ensures.items
