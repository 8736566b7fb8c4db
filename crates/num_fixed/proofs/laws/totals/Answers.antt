use Rattle.num_fixed.proofs.TotalLemmas.{tally_of-append, sum_of_integers}
use Rattle.num_fixed.proofs.ValueLemmas.{one_sum}
use Rattle.num_fixed.proofs.laws.totals.Goals as goal

pub returns : goal.returns
returns c = record { joined = tally_of-append; whole = sum_of_integers; one = one_sum }
