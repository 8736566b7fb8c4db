use Rattle.meaning_laws.proofs.Finding.{finds_calls}
use Rattle.meaning_laws.proofs.laws.eval_finds_calls.Goals as goal

pub returns : goal.returns
returns c = finds_calls
