use Rattle.fn_numbers.proofs.BestLemmas.{less_test, keeps_more, both_on_ok}
use Rattle.fn_numbers.proofs.extremes.MinPartPartial.add.Goals as goal

pub returns-clause-added : goal.returns-clause-added
returns-clause-added c =
    both_on_ok c.add.result (λ k f vs h. keeps_more _ less_test _ _ _ _ vs _ h k f) c.add.ensures.kin c.add.ensures.found
