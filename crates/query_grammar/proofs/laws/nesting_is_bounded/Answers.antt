use Rattle.query_grammar.proofs.Bounds.{bounded_by_nesting, query_within}
use Rattle.query_grammar.proofs.laws.nesting_is_bounded.Goals as goal

pub returns : goal.returns
returns c = record { each = bounded_by_nesting; query = query_within }
