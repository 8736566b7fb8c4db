use Rattle.std.proofs.Common.{arith}
use Rattle.query_lexer.proofs.TokenFacts.{token_spelled, token_begins, token_stops}
use Rattle.module_names.proofs.head.is_spelled.Goals as goal

pub range-requires-clause-start_le_end : goal.range-requires-clause-start_le_end
range-requires-clause-start_le_end c = omega (arith, (token_spelled c.args.text.now c.args.token.now c.requires).some)

pub range-requires-clause-start_boundary : goal.range-requires-clause-start_boundary
range-requires-clause-start_boundary c = λ some. token_begins c.args.text.now c.args.token.now c.requires

pub range-requires-clause-end_boundary : goal.range-requires-clause-end_boundary
range-requires-clause-end_boundary c = token_stops c.args.text.now c.args.token.now c.utf8.text c.requires
