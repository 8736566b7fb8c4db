use Rattle.std.proofs.Common.{◌∙◌, ap}
use Rattle.item_reader.specs.Levels.{key_inside, frame_of}
use Rattle.item_reader.proofs.LevelSteps.{changed}
use Rattle.item_reader.proofs.levels.set_key_at.Goals as goal

pub returns-clause-set : goal.returns-clause-set
returns-clause-set c =
    changed c.args.levels.now.items c.args.last c.set_key.new.self c.index_mut-level.result.now (key_inside c.args.text) c.requires (c.set_key.ensures ∙ ap (λ z. key_inside c.args.text (frame_of z)) c.index_mut-level.ensures.value)
