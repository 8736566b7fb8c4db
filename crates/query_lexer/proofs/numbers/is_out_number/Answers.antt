use Rattle.std.proofs.Common.{◌∙◌}
use Rattle.query_lexer.specs.Scan.{numeral_of}
use Rattle.query_lexer.proofs.RangeLemmas.{read_is_out}
use Rattle.query_lexer.proofs.numbers.is_out_number.Goals as goal

pub returns : goal.returns
returns c =
    let n = numeral_of c.args.word.now in
    c.is_err.ensures.value ∙ read_is_out c.args.word.now c.read_number.result (c.read_number.ensures.value n c.requires) (c.read_number.ensures.overflow n c.requires)
