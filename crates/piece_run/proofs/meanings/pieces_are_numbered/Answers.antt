use Rattle.piece_run.proofs.Numbering as law
use Rattle.piece_run.proofs.meanings.pieces_are_numbered.Goals as goal

pub returns : goal.returns
returns c = law.pieces_are_numbered
