use Rattle.static_rules.proofs.Nestings.{keeps_nesting}
use Rattle.static_rules.proofs.laws.compiling_keeps_nesting.Goals as goal

pub returns : goal.returns
returns c = keeps_nesting
