use Rattle.meaning_laws.proofs.Naming.{leaves_read}
use Rattle.meaning_laws.proofs.laws.leaves_read_names.Goals as goal

pub returns : goal.returns
returns c = leaves_read
