use Rattle.driver_files.proofs.Together.{closed_files}
use Rattle.driver_files.proofs.laws.files_are_closed.Goals as goal

pub returns : goal.returns
returns g c = closed_files _
