use Rattle.static_rules.proofs.Sound.{accepted_queries}
use Rattle.static_rules.proofs.laws.accepted_queries_pass.Goals as goal

pub returns : goal.returns
returns c = accepted_queries
