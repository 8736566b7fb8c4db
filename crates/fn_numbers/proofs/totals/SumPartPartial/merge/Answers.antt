use Rattle.fn_numbers.proofs.TallyLemmas.{kept_joined}
use Rattle.fn_numbers.proofs.totals.SumPartPartial.merge.Goals as goal

pub returns-clause-merged : goal.returns-clause-merged
returns-clause-merged c = λ vs ws h k. kept_joined _ _ _ vs ws c.both-self.ensures h k
