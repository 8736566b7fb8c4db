use Rattle.query_grammar.proofs.Apart.{query_apart}
use Rattle.query_grammar.proofs.laws.commas_stand_apart.Goals as goal

pub returns : goal.returns
returns c = query_apart
