use Rattle.driver_files.proofs.Together.{none_left}
use Rattle.driver_files.proofs.laws.none_is_left_open.Goals as goal

pub returns : goal.returns
returns g c = none_left _
