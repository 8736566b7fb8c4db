use Rattle.std.proofs.Common.{◌∙◌, sym, ap, subst}
use Rattle.json_text.specs.inside.Fits.{FrameFits}
use Rattle.item_tree.specs.Item.{datum}
use Rattle.item_reader.specs.Levels.{value_of, frame_of}
use Rattle.item_reader.proofs.LevelSteps.{fits_at, closed_at}
use Rattle.item_reader.proofs.levels.item_at.Goals as goal

pub returns-clause-ok : goal.returns-clause-ok
returns-clause-ok c =
    closed_at c.args.levels.now.items c.args.last c.item.new.self c.index_mut-level.result.now (datum c.in_ok-item.item) c.requires.inside (c.in_ok-item.ensures ∙ ap (λ z. value_of (frame_of z)) c.index_mut-level.ensures.value)

pub item-requires : goal.item-requires
item-requires c =
    (_, subst (FrameFits _) (ap frame_of (sym c.index_mut-level.ensures.value)) (fits_at c.args.levels.now.items c.args.last c.index_mut-level.result.now c.requires.inside c.requires.fits))
