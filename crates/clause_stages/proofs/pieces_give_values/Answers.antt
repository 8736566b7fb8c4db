use Rattle.clause_stages.proofs.Gathered as law
use Rattle.clause_stages.proofs.pieces_give_values.Goals as goal

pub returns : goal.returns
returns g c = law.pieces_give_values _ _ _ _
