use Rattle.atom_ops.proofs.PlainTexts.{plain_said, plain_refused}
use Rattle.atom_ops.proofs.laws.texts_of_numbers.Goals as goal

pub returns : goal.returns
returns c = record { said = plain_said; refused = plain_refused }
