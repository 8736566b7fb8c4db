use Rattle.fn_sequences.proofs.PlaceLemmas.{reversed}
use Rattle.fn_sequences.proofs.parts.reverse.Goals as goal

pub returns-clause-value : goal.returns-clause-value
returns-clause-value c = reversed _ _ _ c.in_ok-items.ensures c.reverse.ensures.items
