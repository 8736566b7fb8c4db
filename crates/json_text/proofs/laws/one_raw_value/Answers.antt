use Rattle.json_text.proofs.UniqueLemmas.{one_raw_value}
use Rattle.json_text.proofs.laws.one_raw_value.Goals as goal

pub returns : goal.returns
returns c = one_raw_value
