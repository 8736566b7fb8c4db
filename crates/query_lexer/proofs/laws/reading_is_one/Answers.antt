use Rattle.query_lexer.proofs.PathLemmas.{either, one_tokens, one_refusal, not_both}
use Rattle.query_lexer.proofs.laws.reading_is_one.Goals as goal

pub returns : goal.returns
returns c = record { either = either; tokens = one_tokens; refusal = one_refusal; not_both = not_both }
