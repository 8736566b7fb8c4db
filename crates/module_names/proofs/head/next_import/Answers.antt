use Rattle.std.proofs.Common.{arith}
use Rattle.query_lexer.proofs.PlaceLemmas.{token_indexed}
use Rattle.module_names.proofs.head.next_import.Goals as goal

pub is_name-requires : goal.is_name-requires
is_name-requires c = token_indexed c.args.text.now c.args.rest.now 0 _ c.requires.tokens (omega arith)

pub is_name-requires-else-not-is_name : goal.is_name-requires-else-not-is_name
is_name-requires-else-not-is_name c = token_indexed c.args.text.now c.args.rest.now 1 _ c.requires.tokens (omega arith)

pub is_mark-requires : goal.is_mark-requires
is_mark-requires c = token_indexed c.args.text.now c.args.rest.now 3 _ c.requires.tokens (omega arith)
