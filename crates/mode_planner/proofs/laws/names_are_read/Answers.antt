use Rattle.mode_planner.proofs.NamesRead.{are_read}
use Rattle.mode_planner.proofs.laws.names_are_read.Goals as goal

pub returns : goal.returns
returns c = are_read
