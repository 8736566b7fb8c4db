use Rattle.fn_numbers.proofs.BestLemmas.{less_test, keeps_joined}
use Rattle.fn_numbers.proofs.extremes.MinPartPartial.merge.Goals as goal

pub returns-clause-merged : goal.returns-clause-merged
returns-clause-merged c = λ vs ws h k. keeps_joined _ less_test _ _ _ _ _ _ vs ws h k c.merge.ensures.kin (λ _. c.merge.ensures.found)
