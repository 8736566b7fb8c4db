use Rattle.item_reader.proofs.LevelSteps.{no_levels}
use Rattle.item_reader.proofs.levels.Levels.new.Goals as goal

pub returns : goal.returns
returns c = no_levels c.new.result.items
