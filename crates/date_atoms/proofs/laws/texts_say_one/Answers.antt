use Rattle.date_atoms.proofs.PrintedTexts.{texts_say_one}
use Rattle.date_atoms.proofs.laws.texts_say_one.Goals as goal

pub returns : goal.returns
returns c = texts_say_one
