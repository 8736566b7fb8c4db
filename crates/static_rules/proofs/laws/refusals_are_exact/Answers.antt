use Rattle.static_rules.proofs.EarliestRefusals.{refusals_exact}
use Rattle.static_rules.proofs.laws.refusals_are_exact.Goals as goal

pub returns : goal.returns
returns c = refusals_exact
