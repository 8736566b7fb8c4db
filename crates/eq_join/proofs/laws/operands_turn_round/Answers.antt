use Rattle.eq_join.proofs.Comparisons.{operands_turn_round}
use Rattle.eq_join.proofs.laws.operands_turn_round.Goals as goal

pub returns : goal.returns
returns c = operands_turn_round
