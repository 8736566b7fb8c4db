use Rattle.fn_table.proofs.DayLemmas.{days_added}
use Rattle.fn_table.proofs.laws.days_are_added.Goals as goal

pub returns : goal.returns
returns c = days_added
