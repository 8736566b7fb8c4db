use Rattle.meaning_laws.proofs.Naming.{queries_read}
use Rattle.meaning_laws.proofs.laws.queries_read_names.Goals as goal

pub returns : goal.returns
returns c = queries_read
