use Rattle.num_fixed.proofs.NumeralLemmas.{number_said, one_number_said}
use Rattle.num_fixed.proofs.laws.one_number.Goals as goal

pub returns : goal.returns
returns c = record { some = number_said; one = one_number_said }
