use Rattle.piece_run.proofs.InputRuns as law
use Rattle.piece_run.proofs.inputs.runs_are_whole.Goals as goal

pub returns : goal.returns
returns g c = law.runs_are_whole _ g.I.ItemsKept.stands
