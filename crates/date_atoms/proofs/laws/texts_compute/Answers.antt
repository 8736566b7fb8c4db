use Rattle.date_atoms.proofs.ComputedTexts.{texts_computed}
use Rattle.date_atoms.proofs.laws.texts_compute.Goals as goal

pub returns : goal.returns
returns c = texts_computed
