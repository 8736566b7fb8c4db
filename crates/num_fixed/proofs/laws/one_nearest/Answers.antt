use Rattle.num_fixed.proofs.NearestLemmas.{some_nearest}
use Rattle.num_fixed.proofs.ValueLemmas.{one_near}
use Rattle.num_fixed.proofs.laws.one_nearest.Goals as goal

pub returns : goal.returns
returns c = record { some = some_nearest; one = one_near }
