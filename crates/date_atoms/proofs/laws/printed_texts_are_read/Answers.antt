use Rattle.date_atoms.proofs.PrintedTexts.{printed_texts_read}
use Rattle.date_atoms.proofs.laws.printed_texts_are_read.Goals as goal

pub returns : goal.returns
returns c = printed_texts_read
