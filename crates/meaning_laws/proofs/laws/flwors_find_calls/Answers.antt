use Rattle.meaning_laws.proofs.Streams.{flwors_find}
use Rattle.meaning_laws.proofs.laws.flwors_find_calls.Goals as goal

pub returns : goal.returns
returns c = flwors_find
