use Rattle.date_atoms.proofs.DigitTexts.{no_minutes}
use Rattle.date_atoms.proofs.tails.minutes_of.Goals as goal

pub returns-in_err-minutes : goal.returns-in_err-minutes
returns-in_err-minutes c = rw c.from_residual-in_err-minutes.ensures (no_minutes c.args.bytes.now c.in_ok-hours.hours c.in_ok-hours.behind.now c.in_ok-hours.ensures c.in_err-minutes.ensures)
