use Rattle.line_pieces.proofs.Whole.{pieces_are_told}
use Rattle.line_pieces.proofs.laws.pieces_are_told.Goals as goal

pub returns : goal.returns
returns c = pieces_are_told
