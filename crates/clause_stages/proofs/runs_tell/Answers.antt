use Rattle.clause_stages.proofs.CameOut as law
use Rattle.clause_stages.proofs.runs_tell.Goals as goal

pub returns : goal.returns
returns c = law.runs_tell
