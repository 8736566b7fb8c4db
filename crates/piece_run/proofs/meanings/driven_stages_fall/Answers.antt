use Rattle.piece_run.proofs.LinesMeant as law
use Rattle.piece_run.proofs.meanings.driven_stages_fall.Goals as goal

pub returns : goal.returns
returns c = law.driven_stages_fall
