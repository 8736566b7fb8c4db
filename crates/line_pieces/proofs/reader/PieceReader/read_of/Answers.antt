use Rattle.line_pieces.proofs.Places.{place_is}
use Rattle.line_pieces.proofs.reader.PieceReader.read_of.Goals as goal

pub read_part-requires-clause-piece : goal.read_part-requires-clause-piece
read_part-requires-clause-piece g c =
    let place = place_is c.args.cut.now.size c.args.cut.now.lengths c.args.piece c.requires.piece in
    rw (c.place-position.ensures.value, c.size.ensures.value, c.length.ensures, c.place-position.ensures.value) place.number
