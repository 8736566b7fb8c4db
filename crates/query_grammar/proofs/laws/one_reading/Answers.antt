use Rattle.query_grammar.proofs.OneReading.{one_reading}
use Rattle.query_grammar.proofs.laws.one_reading.Goals as goal

pub returns : goal.returns
returns c = one_reading
