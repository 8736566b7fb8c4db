use Rattle.query_lexer.proofs.NestingLemmas.{comment_nests, unclosed_nests}
use Rattle.query_lexer.proofs.laws.comments_nest.Goals as goal

pub returns : goal.returns
returns c = record { comment = comment_nests; unclosed = unclosed_nests }
