use Rattle.meaning_laws.proofs.Naming.{reads_names}
use Rattle.meaning_laws.proofs.laws.eval_reads_names.Goals as goal

pub returns : goal.returns
returns c = reads_names
