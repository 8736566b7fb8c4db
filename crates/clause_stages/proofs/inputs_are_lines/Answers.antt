use Rattle.clause_stages.proofs.Reading as law
use Rattle.clause_stages.proofs.inputs_are_lines.Goals as goal

pub returns : goal.returns
returns c = law.inputs_are_lines
