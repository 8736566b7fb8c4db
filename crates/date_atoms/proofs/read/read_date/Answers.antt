use Rattle.date_atoms.proofs.SaidTexts.{date_read}
use Rattle.date_atoms.proofs.read.read_date.Goals as goal

pub returns : goal.returns
returns c = rw c.as_bytes.ensures.value at (date_read c.date_of.result c.as_bytes.result.now c.as_bytes.ensures.utf8 c.date_of.ensures)
