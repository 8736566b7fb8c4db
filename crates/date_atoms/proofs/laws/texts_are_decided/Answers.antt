use Rattle.date_atoms.proofs.DecidedTexts.{texts_decided}
use Rattle.date_atoms.proofs.laws.texts_are_decided.Goals as goal

pub returns : goal.returns
returns c = texts_decided
