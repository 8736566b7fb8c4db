use Rattle.std.proofs.lemmas.Str.{chars-nil}
use Rattle.atom_ops.proofs.texts.optional_text.Goals as goal

pub returns-in-None : goal.returns-in-None
returns-in-None c = rw c.in-None.is (rw chars-nil at c.of.ensures)
