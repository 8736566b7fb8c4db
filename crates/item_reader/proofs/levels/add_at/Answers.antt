use Rattle.std.proofs.Common.{◌∙◌, ap}
use Rattle.item_tree.specs.Item.{datum}
use Rattle.item_reader.specs.Levels.{add_inside, frame_of}
use Rattle.item_reader.proofs.LevelSteps.{changed}
use Rattle.item_reader.proofs.levels.add_at.Goals as goal

pub returns-clause-ok : goal.returns-clause-ok
returns-clause-ok c =
    changed c.args.levels.now.items c.args.last c.add.new.self c.index_mut-level.result.now (add_inside (datum c.args.item)) c.requires (c.in_ok-add.ensures ∙ ap (λ z. add_inside (datum c.args.item) (frame_of z)) c.index_mut-level.ensures.value)
