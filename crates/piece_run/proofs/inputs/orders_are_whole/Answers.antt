use Rattle.piece_run.proofs.InputRuns as law
use Rattle.piece_run.proofs.inputs.orders_are_whole.Goals as goal

pub returns : goal.returns
returns g c = law.orders_are_whole _ g.I.ItemsKept.stands
