use Rattle.piece_run.proofs.LinesMeant as law
use Rattle.piece_run.proofs.meanings.results_mean.Goals as goal

pub returns : goal.returns
returns g c = law.results_mean g.W.Kept.stands _
