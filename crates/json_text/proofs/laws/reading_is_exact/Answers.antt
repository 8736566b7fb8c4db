use Rattle.json_text.proofs.ReadingLemmas.{reading_exact}
use Rattle.json_text.proofs.laws.reading_is_exact.Goals as goal

pub returns : goal.returns
returns c = reading_exact
