use Rattle.std.proofs.Common.{[]}
use Rattle.query_lexer.proofs.RangeLemmas.{number_numeral}
use Rattle.query_lexer.proofs.numbers.is_out.Goals as goal

pub is_out_number-requires : goal.is_out_number-requires
is_out_number-requires c = number_numeral c.args.kind c.args.word.now [] c.in-Int.is c.requires
