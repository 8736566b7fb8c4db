use Rattle.fn_numbers.proofs.FirstLemmas.{extremes_first}
use Rattle.fn_numbers.proofs.laws.extremes_are_first.Goals as goal

pub returns : goal.returns
returns c = extremes_first
