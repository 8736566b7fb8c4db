use Rattle.item_reader.specs.Levels.{empty_frame}
use Rattle.item_reader.proofs.LevelSteps.{opened_at}
use Rattle.item_reader.proofs.levels.open_at.Goals as goal

pub returns-clause-ok : goal.returns-clause-ok
returns-clause-ok c =
    opened_at c.args.levels.now.items c.have_room.new.levels.items c.args.depth c.open.new.self (empty_frame c.args.is_array) c.in_ok-have_room.ensures.ok.0 c.in_ok-have_room.ensures.ok.1 c.open.ensures
