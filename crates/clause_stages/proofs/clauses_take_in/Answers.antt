use Rattle.clause_stages.proofs.TakingIn as law
use Rattle.clause_stages.proofs.clauses_take_in.Goals as goal

pub returns : goal.returns
returns g c = law.clauses_take_in _ _
