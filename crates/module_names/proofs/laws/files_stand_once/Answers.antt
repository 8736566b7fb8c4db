use Rattle.module_names.proofs.LoadedFiles.{files_are_loaded}
use Rattle.module_names.proofs.laws.files_stand_once.Goals as goal

pub returns : goal.returns
returns c = files_are_loaded
