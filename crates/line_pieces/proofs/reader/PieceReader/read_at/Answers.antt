use Rattle.line_pieces.proofs.Among.{same_of, none_falls, caused_at, length_of}
use Rattle.line_pieces.proofs.reader.PieceReader.read_at.Goals as goal

pub read_of-requires-clause-length : goal.read_of-requires-clause-length
read_of-requires-clause-length g c =
    length_of _ c.args.cut.now.lengths c.args.files.now c.args.position _ c.index-files-position.result
    c.requires.place c.requires.inside c.requires.lengths

pub returns-clause-same : goal.returns-clause-same
returns-clause-same g c =
    same_of _ c.args.files.now c.args.position c.index-files-position.result _ c.requires.inside
    c.read_of.ensures.same

pub returns-clause-cause : goal.returns-clause-cause
returns-clause-cause g c =
    caused_at _ c.args.files.now c.args.position _ c.index-files-position.result _ _
    c.requires.place c.requires.inside c.read_of.ensures.cause

pub returns-clause-rises : goal.returns-clause-rises
returns-clause-rises g c =
    none_falls _ c.args.files.now c.args.position c.index-files-position.result _ c.requires.inside
    c.read_of.ensures.rises
