use Rattle.fn_numbers.proofs.TallyLemmas.{kept_more}
use Rattle.fn_numbers.proofs.totals.SumPartPartial.add.Goals as goal

pub returns-clause-added : goal.returns-clause-added
returns-clause-added c = λ vs h. kept_more _ _ vs _ c.one_more-self.ensures h
