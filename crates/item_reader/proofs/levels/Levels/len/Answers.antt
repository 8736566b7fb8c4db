use Rattle.item_reader.proofs.LevelSteps.{depth_is}
use Rattle.item_reader.proofs.levels.Levels.len.Goals as goal

pub returns : goal.returns
returns c = depth_is c.self.inside.depth c.self.inside.levels.items c.args.self.now c.self.invariant c.self.view_is
