use Rattle.static_rules.proofs.KeptSpines.{keeps_spines}
use Rattle.static_rules.proofs.laws.compiling_keeps_spines.Goals as goal

pub returns : goal.returns
returns c = keeps_spines
