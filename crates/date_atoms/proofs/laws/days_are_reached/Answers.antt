use Rattle.date_atoms.proofs.DayRange.{reached}
use Rattle.date_atoms.proofs.laws.days_are_reached.Goals as goal

pub returns : goal.returns
returns c = reached
