use Rattle.std.proofs.Common.{arith}
use Rattle.query_lexer.proofs.PlaceLemmas.{token_indexed}
use Rattle.module_names.proofs.body.unless_unit.Goals as goal

pub is_mark-requires : goal.is_mark-requires
is_mark-requires c = token_indexed c.args.text.now c.args.tokens.now 0 _ c.requires (omega arith)

pub is_mark-requires-then-is_mark : goal.is_mark-requires-then-is_mark
is_mark-requires-then-is_mark c = token_indexed c.args.text.now c.args.tokens.now 1 _ c.requires (omega arith)
