use Rattle.clause_stages.proofs.Clauses as law
use Rattle.clause_stages.proofs.clauses_are_stages.Goals as goal

pub returns : goal.returns
returns g c = law.clauses_are_stages _ _ _
