use Rattle.num_fixed.proofs.FrontLemmas.{front_is}
use Rattle.num_fixed.proofs.LongestFronts.{longest}
use Rattle.num_fixed.proofs.laws.fronts.Goals as goal

pub returns : goal.returns
returns c = record { is = front_is; longest = longest }
