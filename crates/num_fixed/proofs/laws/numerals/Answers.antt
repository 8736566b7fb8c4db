use Rattle.num_fixed.proofs.NumeralLemmas.{one_numeral, numeral_before, numeral_cut}
use Rattle.num_fixed.proofs.laws.numerals.Goals as goal

pub returns : goal.returns
returns c = record { one = λ l m n. one_numeral m n l; before = numeral_before; cut = numeral_cut }
