use Rattle.piece_run.proofs.GroupKeys as law
use Rattle.piece_run.proofs.laws.groups_have_keys.Goals as goal

pub returns : goal.returns
returns c = law.groups_have_keys
