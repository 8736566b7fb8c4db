use Rattle.piece_run.proofs.Frames as law
use Rattle.piece_run.proofs.meanings.frames_are_tuples.Goals as goal

pub returns : goal.returns
returns c = law.frames_are_tuples
