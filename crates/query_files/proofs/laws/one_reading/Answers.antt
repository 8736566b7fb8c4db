use Rattle.query_files.proofs.OneFound.{one_of_bytes}
use Rattle.query_files.proofs.laws.one_reading.Goals as goal

pub returns : goal.returns
returns c = one_of_bytes
