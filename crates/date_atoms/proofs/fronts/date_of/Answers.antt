use Rattle.date_atoms.proofs.DigitTexts.{date_triple}
use Rattle.date_atoms.proofs.fronts.date_of.Goals as goal

pub returns-in_err-numbers : goal.returns-in_err-numbers
returns-in_err-numbers c = rw c.from_residual.ensures (λ d h. c.in_err-numbers.ensures d.year d.month d.day _ (date_triple c.args.bytes.now d h))
